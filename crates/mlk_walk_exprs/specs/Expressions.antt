-- Expressions, from left to right: the effect of their references and calls on states. Standard: expressions, `$SELECT`,
-- extrinsic functions, actual lists; a reference's subscripts come before its touch.
use Rattle.std.specs.Prelude.{ℕ, Bool, true, false, not, if◌then◌else◌, List, [], ◌∷◌, map, filter, fold, Option, Some, None}
use Rattle.mlk_syntax.specs.declared.expr.Callee.{Callee}
use Rattle.mlk_syntax.specs.ExprTrees.{Tree, Lit, Free, LocalName, GlobalName, SpecialName, Prefixed, Chain, PatternText}
use Rattle.mlk_syntax.specs.ExprTrees.{Func, Selected, BareCall, CallOf, Trees, no_trees, tree, Subs, no_subs, sub, Links}
use Rattle.mlk_syntax.specs.ExprTrees.{no_links, link, Choices, no_choices, choice, ActualTree, Given, ByRef, Missing}
use Rattle.mlk_syntax.specs.ExprTrees.{Actuals, no_actuals, actual, count_subs, as_list}
use Rattle.mlk_names.specs.declared.symbol.Sym.TheVariants.{Unknown}
use Rattle.mlk_walk_state.specs.Symbols.{symbol_in, truth_in}
use Rattle.mlk_walk_state.specs.declared.state.State.{State}
use Rattle.mlk_calls.specs.declared.call.Calling.TheVariants.{Extrinsic}
use Rattle.mlk_walk_state.specs.States.{with_symbol, without_last}
use Rattle.mlk_walk_state.specs.Scope.{Scope}
use Rattle.mlk_calls.specs.Calls.{at_call}
use Rattle.mlk_walk_exprs.specs.declared.walk.Walk.{Walk}
use Rattle.mlk_walk_exprs.specs.Walks.{each, each_changed, few, with_states, both_ways, all_placed}
use Rattle.mlk_walk_exprs.specs.Spots.{Spot}
use Rattle.mlk_walk_exprs.specs.declared.reference.Use.{Use}
use Rattle.mlk_walk_exprs.specs.declared.reference.Use.TheVariants.{ItsValue}
use Rattle.mlk_walk_exprs.specs.References.{use_of, read_last}

abbrev pub agrees : Bool → Option Bool → Bool
agrees wanted None = true
agrees true (Some truth) = truth
agrees false (Some truth) = not truth

-- the states in which a condition may be true, or may be false; an unknown truth value allows both
abbrev pub where_it_may_be : Bool → Scope → Tree → List State → List State
where_it_may_be wanted sc t ss = filter (λ s. agrees wanted (truth_in sc t s)) ss

abbrev pub if_agrees : Bool → Option Bool → State → List State
if_agrees wanted truth s = if agrees wanted truth then s ∷ [] else []

-- Both branches of a condition that was evaluated: one where it may be true, the other where it may be false.
abbrev pub by_condition : Scope → Tree → (Walk → Walk) → (Walk → Walk) → Walk → Walk
by_condition sc t run other w =
    both_ways run (where_it_may_be true sc t w.going) other (where_it_may_be false sc t w.going) w

-- captures the symbol of an expression that was evaluated
abbrev pub with_symbol_of : Scope → Tree → State → State
with_symbol_of sc t s = with_symbol (symbol_in sc t s) s

abbrev pub capture : Scope → Tree → Walk → Walk
capture sc t w = with_states (map (with_symbol_of sc t) w.going) w

abbrev pub capture_unknown : Walk → Walk
capture_unknown w = with_states (map (with_symbol Unknown) w.going) w

-- the subscripts of a local are evaluated and not used
abbrev pub forget_subs : Subs → Walk → Walk
forget_subs no_subs w = w
forget_subs (sub column t rest) w = each_changed (without_last (count_subs (sub column t rest))) w

-- An extrinsic call whose actuals were captured. After each one it is checked that there are not too many states.
abbrev pub extrinsic : Spot → ℕ → Callee → List ActualTree → Walk → Walk
extrinsic p column callee given w =
    few p.line p.word (each (λ s. all_placed p.line column (at_call p.scope Extrinsic callee given s)) w)

abbrev mutual
  -- an expression; if it is a name, it is used as `how` says
  pub evaluate : Spot → Use → Tree → Walk → Walk
  evaluate p how (Lit value) w = w
  evaluate p how Free w = w
  evaluate p how (LocalName name subs) w = forget_subs subs (capture_subs p subs w)
  evaluate p how (GlobalName column name subs) w =
      each (read_last p how column name (count_subs subs)) (capture_subs p subs w)
  evaluate p how (SpecialName special) w = w
  evaluate p how (Prefixed op t) w = evaluate p ItsValue t w
  evaluate p how (Chain first rest) w = evaluate_links p rest (evaluate p ItsValue first w)
  evaluate p how (PatternText text) w = w
  evaluate p how (Func function args) w = evaluate_all p (use_of function) args w
  evaluate p how (Selected choices) w = evaluate_choices p choices w
  evaluate p how (BareCall column callee) w = extrinsic p column callee [] w
  evaluate p how (CallOf column callee actuals) w =
      extrinsic p column callee (as_list actuals) (capture_actuals p actuals w)

  -- the arguments of a function, which uses the first as `how` says
  pub evaluate_all : Spot → Use → Trees → Walk → Walk
  evaluate_all p how no_trees w = w
  evaluate_all p how (tree t ts) w = evaluate_all p ItsValue ts (evaluate p how t w)

  -- subscripts: the symbol of each is captured after its evaluation
  pub capture_subs : Spot → Subs → Walk → Walk
  capture_subs p no_subs w = w
  capture_subs p (sub column t rest) w = capture_subs p rest (capture p.scope t (evaluate p ItsValue t w))

  -- the operands after the first
  pub evaluate_links : Spot → Links → Walk → Walk
  evaluate_links p no_links w = w
  evaluate_links p (link op t rest) w = evaluate_links p rest (evaluate p ItsValue t w)

  -- `$SELECT`: the value of the first condition that is true; if none is, the case ends
  pub evaluate_choices : Spot → Choices → Walk → Walk
  evaluate_choices p no_choices w = with_states [] w
  evaluate_choices p (choice condition value rest) w = by_condition p.scope condition
      (evaluate p ItsValue value) (evaluate_choices p rest) (evaluate p ItsValue condition w)

  -- an actual: a name by reference, and a missing one, is unknown
  pub capture_actual : Spot → ActualTree → Walk → Walk
  capture_actual p (Given t) w = capture p.scope t (evaluate p ItsValue t w)
  capture_actual p (ByRef column name) w = capture_unknown w
  capture_actual p Missing w = capture_unknown w

  pub capture_actuals : Spot → Actuals → Walk → Walk
  capture_actuals p no_actuals w = w
  capture_actuals p (actual a rest) w = capture_actuals p rest (capture_actual p a w)

-- A condition of `$SELECT`: the walk in the states in which it may be true, and the states in which it may be false. For
-- private clauses only.
abbrev pub where_chosen : Spot → Tree → Walk → Walk
where_chosen p condition w = chosen_of p condition (evaluate p ItsValue condition w)
  where
    chosen_of : Spot → Tree → Walk → Walk
    chosen_of p condition found = with_states (where_it_may_be true p.scope condition found.going) found

abbrev pub passed_over : Spot → Tree → Walk → List State
passed_over p condition w = where_it_may_be false p.scope condition (evaluate p ItsValue condition w).going

-- the value of an expression
abbrev pub value : Spot → Tree → Walk → Walk
value p t w = evaluate p ItsValue t w

abbrev pub value_if : Spot → Option Tree → Walk → Walk
value_if p None w = w
value_if p (Some t) w = value p t w

abbrev pub values : Spot → List Tree → Walk → Walk
values p ts w = fold (λ found t. value p t found) w ts

-- A postconditional: if it is false, the states are set aside, and `$TEST` is kept. Standard: postconditionals.
abbrev pub conditioned : Spot → Option Tree → (Walk → Walk) → (Walk → Walk) → Walk → Walk
conditioned p None run aside w = run w
conditioned p (Some t) run aside w = by_condition p.scope t run aside (value p t w)
