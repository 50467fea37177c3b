-- How the walk of each kind of expression unfolds.
use Rattle.std.specs.Prelude.{OnOk}
use Rattle.std.proofs.Common.{◌≡◌, ◌∙◌, ap, sym, subst, arith, eqb-true, true, false, nat_eq, Result, refl, length, ℕ, List, [], ◌∷◌, None, Some, Vec, Box, Global}
use Rattle.mlk_text.specs.declared.operator.Op.{Op}
use Rattle.mlk_text.specs.declared.operator.UnaryOp.{UnaryOp}
use Rattle.mlk_syntax.specs.declared.expr.Callee.{Callee}
use Rattle.mlk_syntax.specs.declared.expr.Function.{Function}
use Rattle.mlk_syntax.specs.declared.expr.Expr.{Expr}
use Rattle.mlk_syntax.specs.declared.expr.Actual.{Actual}
use Rattle.mlk_syntax.specs.declared.expr.Subscript.{Subscript}
use Rattle.mlk_syntax.specs.declared.expr.Expr.TheVariants as rust
use Rattle.mlk_syntax.specs.ExprTrees.{Tree, tree_of, sub_trees, subs_from, trees, trees_from, no_subs, links, links_from, choices, choices_from, actual_trees, actuals_from}
use Rattle.mlk_syntax.proofs.Variants.{tree_local, tree_global, tree_func, tree_call, tree_unary, tree_binary, tree_select, tree_bare}
use Rattle.mlk_syntax.proofs.TreeLists.{counted, as_list_same}
use Rattle.mlk_walk_exprs.specs.declared.walk.Walk.{Walk}
use Rattle.mlk_walk_exprs.specs.declared.reference.Use.{Use}
use Rattle.mlk_walk_exprs.specs.declared.reference.Use.TheVariants.{ItsValue}
use Rattle.mlk_walk_state.specs.declared.state.State.{State}
use Rattle.mlk_walk_state.specs.Scope.{Scope}
use Rattle.mlk_walk_state.specs.Symbols.{local_symbol}
use Rattle.mlk_walk_state.specs.States.{without_last, with_symbol}
use Rattle.mlk_walk_exprs.specs.Walks.{each, each_changed}
use Rattle.mlk_walk_exprs.specs.Spots.{Spot}
use Rattle.mlk_walk_exprs.specs.References.{use_of, read_last}
use Rattle.mlk_walk_exprs.specs.Expressions.{with_symbol_of, forget_subs, extrinsic, evaluate, evaluate_all, capture_subs, evaluate_links, evaluate_choices, capture_actuals}

pub forgets : (ss : List Subscript) (w : Walk) → nat_eq (length ss) 0 ≡ false
    → forget_subs (subs_from (sub_trees ss)) w ≡ each_changed (without_last (length ss)) w
forgets [] w h = absurd (cc)
forgets (s ∷ ss) w h = ap (λ n. each_changed (without_last n) w) (counted (s ∷ ss))

module _ (sc : Scope) (name : List ℕ) (s : State) where
  no_subscripts : (ss : List Subscript) → nat_eq (length ss) 0 ≡ true
      → with_symbol (local_symbol (sc.is_shared s.case.own name) name (subs_from (sub_trees ss))) s
      ≡ with_symbol (local_symbol (sc.is_shared s.case.own name) name no_subs) s
  no_subscripts [] h = refl
  no_subscripts (x ∷ xs) h = absurd (omega (arith, eqb-true (length (x ∷ xs)) 0 h))

  pub local_captured : (v : Vec Subscript Global) → nat_eq (length v.items) 0 ≡ true
      → with_symbol_of sc (tree_of (rust.Local name v)) s ≡ with_symbol (local_symbol (sc.is_shared s.case.own name) name no_subs) s
  local_captured v h = ap (λ (t : Tree). with_symbol_of sc t s) (tree_local name v) ∙ no_subscripts v.items h

module _ (p : Spot) (how : Use) (w : Walk) where
  pub local_opens : (name : List ℕ) (v : Vec Subscript Global) → evaluate p how (tree_of (rust.Local name v)) w
      ≡ forget_subs (subs_from (sub_trees v.items)) (capture_subs p (subs_from (sub_trees v.items)) w)
  local_opens name v = ap (λ t. evaluate p how t w) (tree_local name v)

  pub global_opens : (column : ℕ) (name : List ℕ) (v : Vec Subscript Global) → evaluate p how (tree_of (rust.Global column name v)) w
      ≡ each (read_last p how column name (length v.items)) (capture_subs p (subs_from (sub_trees v.items)) w)
  global_opens column name v = ap (λ t. evaluate p how t w) (tree_global column name v)
      ∙ ap (λ n. each (read_last p how column name n) (capture_subs p (subs_from (sub_trees v.items)) w)) (counted v.items)

  pub unary_opens : (op : UnaryOp) (b : Box Expr Global) → evaluate p how (tree_of (rust.Unary op b)) w
      ≡ evaluate p ItsValue (tree_of b.value) w
  unary_opens op b = ap (λ t. evaluate p how t w) (tree_unary op b)

  pub binary_opens : (b : Box Expr Global) (v : Vec (Op × Expr) Global) → evaluate p how (tree_of (rust.Binary b v)) w
      ≡ evaluate_links p (links_from (links v.items)) (evaluate p ItsValue (tree_of b.value) w)
  binary_opens b v = ap (λ t. evaluate p how t w) (tree_binary b v)

  pub function_opens : (f : Function) (v : Vec Expr Global) → evaluate p how (tree_of (rust.Func f v)) w
      ≡ evaluate_all p (use_of f) (trees_from (trees v.items)) w
  function_opens f v = ap (λ t. evaluate p how t w) (tree_func f v)

  pub select_opens : (v : Vec (Expr × Expr) Global) → evaluate p how (tree_of (rust.Select v)) w
      ≡ evaluate_choices p (choices_from (choices v.items)) w
  select_opens v = ap (λ t. evaluate p how t w) (tree_select v)

  pub bare_opens : (column : ℕ) (callee : Box Callee Global) → evaluate p how (tree_of (rust.Call column callee None)) w
      ≡ extrinsic p column callee.value [] w
  bare_opens column callee = ap (λ t. evaluate p how t w) (tree_bare column callee)

  pub call_opens : (column : ℕ) (callee : Box Callee Global) (given : Vec Actual Global)
      → evaluate p how (tree_of (rust.Call column callee (Some given))) w
      ≡ extrinsic p column callee.value (actual_trees given.items) (capture_actuals p (actuals_from (actual_trees given.items)) w)
  call_opens column callee given = ap (λ t. evaluate p how t w) (tree_call column callee given)
      ∙ ap (λ g. extrinsic p column callee.value g (capture_actuals p (actuals_from (actual_trees given.items)) w)) (as_list_same (actual_trees given.items))

pub carried : {T E : Type 0} (r : Result T E) (w a b : Walk) → OnOk r (w ≡ a) → b ≡ a → OnOk r (w ≡ b)
carried r w a b h e = subst (λ z. OnOk r (w ≡ z)) (sym e) h
