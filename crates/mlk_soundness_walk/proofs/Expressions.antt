-- Expressions: if the walk of one finds nothing wrong, a job that evaluates it is safe if it is safe with the value.
use Rattle.std.proofs.Common.{◌≡◌, ℕ, Bool, true, false, List, [], ◌∷◌, ◌++◌, drop, Option, Some, None, refl, sym, ap, ◌∙◌, subst, arith, ⊎_elim, append_assoc}
use Rattle.std.specs.Prelude.{◌⊎◌}
use Rattle.std.proofs.lemmas.Bool.{cases_Bool}
use Rattle.mlk_names.specs.declared.symbol.Sym.{Sym}
use Rattle.mlk_names.specs.declared.symbol.Sym.TheVariants as known
use Rattle.mlk_names.specs.declared.reference.Extent.TheVariants.{Node}
use Rattle.mlk_names.specs.declared.reference.Access.TheVariants.{Reads}
use Rattle.mlk_names.specs.Symbols.{StandsFor}
use Rattle.mlk_text.specs.declared.operator.Op.{Op}
use Rattle.mlk_syntax.specs.declared.expr.Callee.{Callee}
use Rattle.mlk_syntax.specs.declared.expr.Function.{Function}
use Rattle.mlk_syntax.specs.declared.expr.Special.TheVariants as special
use Rattle.mlk_syntax.specs.ExprTrees.{Tree, Lit, Free, LocalName, GlobalName, SpecialName, Prefixed, Chain, PatternText, Func, Selected, BareCall, CallOf}
use Rattle.mlk_syntax.specs.ExprTrees.{Subs, no_subs, sub, Links, no_links, link, Trees, no_trees, tree, Choices, no_choices, choice, ActualTree, Given, ByRef, Missing, Actuals, no_actuals, actual, count_subs, as_list}
use Rattle.mlk_syntax.specs.Trees.{RoutineTree, Called}
use Rattle.mlk_program.specs.Calls.{in_tree, in_trees, in_subs, in_links, in_choices, in_actuals}
use Rattle.mlk_cert_parts.specs.declared.case.Case.{Case}
use Rattle.mlk_numbers.specs.Operators.{truth_of_text}
use Rattle.mlk_machine_jobs.specs.Tasks as task
use Rattle.mlk_machine_jobs.specs.Tasks.{Task, Job}
use Rattle.mlk_machine_jobs.specs.Choices.{pushed, dropped, doing}
use Rattle.mlk_machine_jobs.specs.Lines.{chosen}
use Rattle.mlk_machine_jobs.specs.Expressions as run
use Rattle.mlk_machine_jobs.specs.Expressions.{parts_of, each_sub, each_tree, each_actual, operation, function_parts, takes_name}
use Rattle.mlk_walk_state.specs.declared.state.State.{State}
use Rattle.mlk_walk_state.specs.States.{with_symbol, without_last, last_captured}
use Rattle.mlk_walk_state.specs.Symbols.{between_symbols, chain_symbol, symbol_of, symbol_in, truth_in}
use Rattle.mlk_walk_exprs.specs.declared.walk.Walk.{Walk}
use Rattle.mlk_walk_exprs.specs.declared.walk.Quit.{Quit}
use Rattle.mlk_walk_exprs.specs.declared.reference.Use.TheVariants.{ItsValue}
use Rattle.mlk_walk_exprs.specs.Walks.{each}
use Rattle.mlk_walk_exprs.specs.Spots.{Spot}
use Rattle.mlk_walk_exprs.specs.References.{use_of, read_fault, read_last}
use Rattle.mlk_walk_exprs.specs.Expressions.{agrees, by_condition, with_symbol_of, capture, forget_subs, extrinsic, evaluate, evaluate_all, evaluate_choices, capture_subs, capture_actual, capture_actuals, evaluate_links}
use Rattle.mlk_walk_commands.specs.Arguments.{given_list}
use Rattle.mlk_walk_laws.proofs.Counts.{ways_keep}
use Rattle.mlk_walk_laws.proofs.Transfers.{each_keeps, capture_keeps, both}
use Rattle.mlk_walk_laws.proofs.Walks.{extrinsic_keeps, forgotten_keeps, evaluated_keeps, all_keep, captured_keep, linked_keep, chosen_keep, one_given_keeps, given_keep}
use Rattle.mlk_soundness_machine.specs.Reads.{now}
use Rattle.mlk_soundness_machine.specs.Described.{World, Level, Slot, Kept, Bare, Blank, idle, Describes}
use Rattle.mlk_soundness_machine.proofs.Known.{IsConstant}
use Rattle.mlk_soundness_machine.proofs.Worlds.{push_law, drop_law, know_law, capture_law}
use Rattle.mlk_soundness_machine.proofs.Steps.{Comes, done, refused, unasked, of_value, of_last, of_known}
use Rattle.mlk_soundness_machine.proofs.Stack.{kepts}
use Rattle.mlk_soundness_machine.proofs.Values.{Safe, Fits, FitsBy, FitsValue, plain_step, expand, literal, local, test, number, unary, binary, replace_law, symbol_truth}
use Rattle.mlk_soundness_machine.proofs.Touches.{FitsAny, form}
use Rattle.mlk_soundness_machine.proofs.Unused.{bares, ask_fits, forgotten_fits, blank_law}
use Rattle.mlk_soundness_walk.proofs.Alone.{Leads}
use Rattle.mlk_soundness_walk.proofs.Alone.{leads_both, leads_each, leads_mapped, leads_stay, leads_changed, leads_true, leads_false}
use Rattle.mlk_soundness_walk.proofs.Calls.{given_slots}
use Rattle.mlk_soundness_walk.proofs.Functions.{Subscripts, Others, no_name, values_asked, local_fits, global_fits}
use Rattle.mlk_soundness_walk.proofs.Goes.{covered_goes}
use Rattle.mlk_soundness_walk.specs.Ours.{IsOurs, AreOurs}
use Rattle.mlk_soundness_walk.proofs.Ours.{ours_left, ours_right}
use Rattle.mlk_soundness_walk.proofs.Symbols.{local_unshared, operand, with_subs, truth_agrees}

-- both definitions of the list of actuals
module _ (routines : List RoutineTree) (p : Spot) (w : World) (b : Level) (S : Case → Type 0) (Q : Quit → Type 0) (n : ℕ) where
  abbrev Fit : List Slot → ℕ → List Task → State → Type 0
  Fit = Fits routines p.scope w b

  abbrev FitValue : Tree → List Slot → ℕ → List Task → State → Type 0
  FitValue = FitsValue routines p.scope w b

  abbrev FitBy : ((List ℕ → Bool) → Sym) → List Slot → ℕ → List Task → State → Type 0
  FitBy = FitsBy routines p.scope w b

  -- any value, about which nothing is known
  any_value : (t : Tree) → ((shared : List ℕ → Bool) → symbol_of shared t ≡ known.Unknown) → (slots : List Slot) (ts : List Task) (s : State) → truth_in p.scope t s ≡ None → FitValue t slots n ts s
      → (j : Job) (v : List ℕ) (more : List (List ℕ)) → Describes p.scope w b (Bare None ∷ slots) s (idle j) → j.values ≡ v ∷ more → j.tasks ≡ ts → Safe routines p.scope w b n j
  any_value t unknown slots ts s none k j v more d e tasks = k j v more d e (record {
    symbol = record {
      constant = λ shared. subst (λ z. IsConstant z v) (sym (unknown shared)) tt;
      stands = (let z = unknown (p.scope.is_shared s.case.own) in rw z tt);
    };
    truth = rw none tt;
  }) tasks

  asked : (t : Tree) → ((shared : List ℕ → Bool) → symbol_of shared t ≡ known.Unknown) → parts_of t ≡ task.AskValue 0 ∷ [] → (slots : List Slot) (ts : List Task) (s : State) → truth_in p.scope t s ≡ None
      → FitValue t slots n ts s → Fit slots n (task.Evaluate t ∷ ts) s
  asked t unknown parts slots ts s none k = expand routines p.scope w b slots n ts s t (λ j d e.
      plain_step routines p.scope w b slots n ts s (task.AskValue 0) refl j (e ∙ ap (λ z. z ++ ts) parts) (λ free c.
      of_value (Safe routines p.scope w b n) c _ (λ v. done (Safe routines p.scope w b n) (doing ts (pushed v (dropped 0 j)))
      (any_value t unknown slots ts s none k (doing ts (pushed v (dropped 0 j))) v j.values (push_law p.scope w b slots s (idle j) d v) refl refl))))

  -- the operand of a pattern match
  pattern_fits : (op : Op) (text : List ℕ) (by : (List ℕ → Bool) → Sym) (slots : List Slot) (ts : List Task) (s : State)
      → FitBy (λ shared. between_symbols op (by shared) known.Unknown) slots n ts s → FitBy by slots n (task.AskValue 1 ∷ ts) s
  pattern_fits op text by slots ts s k j v more d e knows tasks =
      plain_step routines p.scope w b slots n ts s (task.AskValue 1) refl j tasks (λ free c.
      of_value (Safe routines p.scope w b n) c _ (λ r. done (Safe routines p.scope w b n) (doing ts (pushed r (dropped 1 j)))
      (k (doing ts (pushed r (dropped 1 j))) r (drop 1 j.values) (replace_law routines p.scope w b slots n ts s j v more r d e) refl
      (record { constant = λ shared. constant (by shared) r; stands = stands (by (p.scope.is_shared s.case.own)) r }) refl)))
    where
      constant : (x : Sym) (r : List ℕ) → IsConstant (between_symbols op x known.Unknown) r
      constant (known.Const c) r = tt
      constant (known.Local n) r = tt
      constant known.Job r = tt
      constant known.Unknown r = tt

      stands : (x : Sym) (r : List ℕ) → StandsFor (now j) (between_symbols op x known.Unknown) r
      stands (known.Const c) r = tt
      stands (known.Local n) r = tt
      stands known.Job r = tt
      stands known.Unknown r = tt

  abbrev FitAny : List Slot → ℕ → List Task → State → Type 0
  FitAny slots n ts s = FitsAny routines p.scope w b slots n ts s

  -- a value about which nothing is known
  any_of : (t : Tree) → ((shared : List ℕ → Bool) → symbol_of shared t ≡ known.Unknown) → (slots : List Slot) (ts : List Task) (s : State) → truth_in p.scope t s ≡ None → FitValue t slots n ts s → FitAny slots n ts s
  any_of t unknown slots ts s none k j v d e tasks = any_value t unknown slots ts s none k j v (drop 1 j.values) d e tasks

  to_any : (t : Tree) (slots : List Slot) (ts : List Task) (s : State) → FitAny slots n ts s → FitValue t slots n ts s
  to_any t slots ts s k j v more d e knows tasks = k j v d (e ∙ ap (λ z. v ∷ z) (sym (ap (drop 1) e))) tasks

  -- an extrinsic function whose actuals were evaluated
  abbrev pub CallsFit : Type 1
  CallsFit =
      (column : ℕ) (callee : Callee) (written : Option (List ActualTree)) → IsOurs p.scope (Called column callee written)
      → (slots : List Slot) (ts : List Task) (s : State) (A : State → Type 0) → Leads (extrinsic p column callee (given_list written)) s A S Q
      → ((u : State) → A u → FitAny slots n ts u) → Fit (given_slots (given_list written) slots) n (task.Call true callee (given_list written) ∷ ts) s

  -- what is shown of the subscripts of a name that is an argument of a function, and of the further arguments
  pub record NamePart (subs : Subs) (more : Trees) : Type 1 where
    pub subscripts : Subscripts routines p w b S Q n subs
    pub others : Others routines p w b S Q n more

  abbrev pub NameParts : Trees → Type 1
  NameParts (tree (GlobalName column name subs) more) = NamePart subs more
  NameParts (tree (LocalName name subs) more) = NamePart subs more
  NameParts args = Unit {1}

  -- a function of a name, if it is given one
  named_fits : (f : Function) → takes_name f ≡ true → (args : Trees) → Others routines p w b S Q n args → NameParts args → (slots : List Slot) (ts : List Task) (s : State) (A : State → Type 0)
      → Leads (evaluate_all p (use_of f) args) s A S Q → ((u : State) → A u → FitAny slots n ts u) → Fit slots n (function_parts f true args ++ ts) s
  named_fits f y no_trees others parts slots ts s A l k = values_asked routines p w b S Q n no_trees others slots ts A k s l
  named_fits f y (tree (GlobalName column name subs) more) others parts slots ts s A l k =
      global_fits routines p w b S Q n more parts.others slots ts A k f y column name subs
      parts.subscripts s l
  named_fits f y (tree (LocalName name subs) more) others parts slots ts s A l k =
      local_fits routines p w b S Q n more parts.others slots ts A k (use_of f) name subs
      parts.subscripts s l
  named_fits f y (tree (Lit v) more) others parts slots ts s A l k = values_asked routines p w b S Q n (tree (Lit v) more) others slots ts A k s l
  named_fits f y (tree Free more) others parts slots ts s A l k = values_asked routines p w b S Q n (tree Free more) others slots ts A k s l
  named_fits f y (tree (SpecialName x) more) others parts slots ts s A l k = values_asked routines p w b S Q n (tree (SpecialName x) more) others slots ts A k s l
  named_fits f y (tree (Prefixed op t) more) others parts slots ts s A l k = values_asked routines p w b S Q n (tree (Prefixed op t) more) others slots ts A k s l
  named_fits f y (tree (Chain first rest) more) others parts slots ts s A l k = values_asked routines p w b S Q n (tree (Chain first rest) more) others slots ts A k s l
  named_fits f y (tree (PatternText text) more) others parts slots ts s A l k = values_asked routines p w b S Q n (tree (PatternText text) more) others slots ts A k s l
  named_fits f y (tree (Func g given) more) others parts slots ts s A l k = values_asked routines p w b S Q n (tree (Func g given) more) others slots ts A k s l
  named_fits f y (tree (Selected cs) more) others parts slots ts s A l k = values_asked routines p w b S Q n (tree (Selected cs) more) others slots ts A k s l
  named_fits f y (tree (BareCall column callee) more) others parts slots ts s A l k = values_asked routines p w b S Q n (tree (BareCall column callee) more) others slots ts A k s l
  named_fits f y (tree (CallOf column callee given) more) others parts slots ts s A l k = values_asked routines p w b S Q n (tree (CallOf column callee given) more) others slots ts A k s l

  function_fits : (f : Function) (args : Trees) → Others routines p w b S Q n args → NameParts args → (slots : List Slot) (ts : List Task) (s : State) (A : State → Type 0) → Leads (evaluate_all p (use_of f) args) s A S Q
      → ((u : State) → A u → FitAny slots n ts u) → Fit slots n (function_parts f (takes_name f) args ++ ts) s
  function_fits f args others parts slots ts s A l k =
      ⊎_elim
      (λ (y : takes_name f ≡ true). subst (λ z. Fit slots n (function_parts f z args ++ ts) s) (sym y) (named_fits f y args others parts slots ts s A l k))
      (λ (y : takes_name f ≡ false). subst (λ z. Fit slots n (function_parts f z args ++ ts) s) (sym y)
      (values_asked routines p w b S Q n args others slots ts A k s (subst (λ z. Leads (evaluate_all p z args) s A S Q) (no_name f y) l)))
      (cases_Bool (takes_name f))

  -- the way that execution takes
  way_fits : (t v : Tree) (rest : Choices) (slots : List Slot) (ts : List Task) (u : State) (A : State → Type 0)
      → (Leads (evaluate p ItsValue v) u A S Q → Fit slots n (task.Evaluate v ∷ ts) u) → (Leads (evaluate_choices p rest) u A S Q → Fit slots n (task.Select rest ∷ ts) u)
      → Leads (by_condition p.scope t (evaluate p ItsValue v) (evaluate_choices p rest)) u A S Q
      → (z : Bool) → agrees z (truth_in p.scope t u) ≡ true → (i : Job) → Describes p.scope w b slots u (idle (dropped 1 i)) → Comes (Safe routines p.scope w b n) (chosen v rest ts z (dropped 1 i))
  way_fits t v rest slots ts u A taken other m true may i d =
      done (Safe routines p.scope w b n) (doing (task.Evaluate v ∷ ts) (dropped 1 i))
      (taken (leads_true A S Q p.scope t (evaluate p ItsValue v) (evaluate_choices p rest) (evaluated_keeps p ItsValue v) (chosen_keep p rest) u m may)
      (doing (task.Evaluate v ∷ ts) (dropped 1 i)) d refl)
  way_fits t v rest slots ts u A taken other m false may i d =
      done (Safe routines p.scope w b n) (doing (task.Select rest ∷ ts) (dropped 1 i))
      (other (leads_false A S Q p.scope t (evaluate p ItsValue v) (evaluate_choices p rest) (evaluated_keeps p ItsValue v) (chosen_keep p rest) u m may)
      (doing (task.Select rest ∷ ts) (dropped 1 i)) d refl)

  module _ (call : CallsFit) where
    mutual
      pub evaluate_fits : (t : Tree) → AreOurs p.scope (in_tree t) → (slots : List Slot) (ts : List Task) (s : State) (A : State → Type 0) → Leads (evaluate p ItsValue t) s A S Q
          → ((u : State) → A u → FitValue t slots n ts u) → Fit slots n (task.Evaluate t ∷ ts) s
      evaluate_fits (Lit v) ours slots ts s A l k = literal routines p.scope w b slots n ts s v (k s (leads_stay A S Q s l))
      evaluate_fits Free ours slots ts s A l k = asked Free (λ shared. refl) refl slots ts s refl (k s (leads_stay A S Q s l))
      evaluate_fits (LocalName name no_subs) ours slots ts s A l k = local routines p.scope w b slots n ts s name (k s (leads_stay A S Q s l))
      evaluate_fits (LocalName name (sub column t rest)) ours slots ts s A l k =
          let count : ℕ = count_subs (sub column t rest) in
          expand routines p.scope w b slots n ts s (LocalName name (sub column t rest))
          (subst (λ z. Fit slots n z s) (sym (append_assoc (each_sub (sub column t rest)) (task.AskValue count ∷ []) ts))
          (subs_fit (sub column t rest) ours slots (task.AskValue count ∷ ts) s (λ u. Leads (forget_subs (sub column t rest)) u A S Q)
          (leads_both A S Q (capture_subs p (sub column t rest)) (forget_subs (sub column t rest)) (captured_keep p (sub column t rest)) (forgotten_keeps (sub column t rest)) s l)
          (λ u m.
          let a : A (without_last count u) = leads_changed A S Q (without_last (count_subs (sub column t rest))) u m in
          forgotten_fits routines p.scope w b slots n (task.AskValue count ∷ ts) u count
          (ask_fits routines p.scope w b slots n ts (without_last count u) count
          (any_of (LocalName name (sub column t rest)) (λ shared. with_subs shared name column t rest) slots ts (without_last count u) refl (k (without_last count u) a))))))
      evaluate_fits (GlobalName column name subs) ours slots ts s A l k =
          expand routines p.scope w b slots n ts s (GlobalName column name subs)
          (subst (λ z. Fit slots n z s) (sym (append_assoc (each_sub subs) (task.FormReference name (count_subs subs) Node Reads ∷ []) ts))
          (subs_fit subs ours slots (task.FormReference name (count_subs subs) Node Reads ∷ ts) s
          (λ u. Leads (each (read_last p ItsValue column name (count_subs subs))) u A S Q)
          (leads_both A S Q (capture_subs p subs) (each (read_last p ItsValue column name (count_subs subs))) (captured_keep p subs) (each_keeps (read_last p ItsValue column name (count_subs subs))) s l)
          (λ u m.
          let r = covered_goes A S Q (read_fault p ItsValue name (last_captured (count_subs subs) u) u) p.line column (without_last (count_subs subs) u)
          (leads_each A S Q (read_last p ItsValue column name (count_subs subs)) u m) in
          form routines p.scope w b slots n ts u name (count_subs subs) Node Reads
          r.0
          (λ j v d e tasks. any_value (GlobalName column name subs) (λ shared. refl) slots ts (without_last (count_subs subs) u) refl
          (k (without_last (count_subs subs) u) r.1) j v (drop 1 j.values) d e tasks))))
      evaluate_fits (SpecialName special.Job) ours slots ts s A l k = number routines p.scope w b slots n ts s (k s (leads_stay A S Q s l))
      evaluate_fits (SpecialName special.Test) ours slots ts s A l k = test routines p.scope w b slots n ts s (k s (leads_stay A S Q s l))
      evaluate_fits (SpecialName x) ours slots ts s A l k = asked (SpecialName x) (λ shared. refl) refl slots ts s refl (k s (leads_stay A S Q s l))
      evaluate_fits (Prefixed op t) ours slots ts s A l k =
          expand routines p.scope w b slots n ts s (Prefixed op t)
          (evaluate_fits t ours slots (task.ApplyUnary op ∷ ts) s A l (λ u a. unary routines p.scope w b slots n ts u op t (k u a)))
      evaluate_fits (Chain first rest) ours slots ts s A l k =
          expand routines p.scope w b slots n ts s (Chain first rest)
          (evaluate_fits first (ours_left p.scope (in_tree first) (in_links rest) ours) slots (operation rest ++ ts) s (λ u. Leads (evaluate_links p rest) u A S Q)
          (leads_both A S Q (evaluate p ItsValue first) (evaluate_links p rest) (evaluated_keeps p ItsValue first) (linked_keep p rest) s l)
          (λ u m j v more d e knows tasks.
          links_fit rest (ours_right p.scope (in_tree first) (in_links rest) ours) (λ shared. symbol_of shared first) slots ts u A m
          (λ t a i r others g f by tasks'. k t a i r others g f (record { symbol = by; truth = symbol_truth (symbol_in p.scope (Chain first rest) t) r (by.constant (p.scope.is_shared t.case.own)) }) tasks')
          j v more d e knows.symbol tasks))
      evaluate_fits (PatternText text) ours slots ts s A l k = asked (PatternText text) (λ shared. refl) refl slots ts s refl (k s (leads_stay A S Q s l))
      evaluate_fits (Func f args) ours slots ts s A l k =
          expand routines p.scope w b slots n ts s (Func f args)
          (function_fits f args (trees_fit args ours) (parts_fit args ours) slots ts s A l (λ u a. any_of (Func f args) (λ shared. refl) slots ts u refl (k u a)))
      evaluate_fits (Selected cs) ours slots ts s A l k =
          expand routines p.scope w b slots n ts s (Selected cs)
          (choices_fit cs ours slots ts s A l (λ u a. any_of (Selected cs) (λ shared. refl) slots ts u refl (k u a)))
      evaluate_fits (BareCall column callee) ours slots ts s A l k =
          expand routines p.scope w b slots n ts s (BareCall column callee)
          (call column callee None (ours (Called column callee None) (0, omega arith, refl)) slots ts s A l
          (λ u a. any_of (BareCall column callee) (λ shared. refl) slots ts u refl (k u a)))
      evaluate_fits (CallOf column callee given) ours slots ts s A l k =
          let one : AreOurs p.scope (Called column callee (Some (as_list given)) ∷ []) = ours_left p.scope (Called column callee (Some (as_list given)) ∷ []) (in_actuals given) ours in
          let rest = ours_right p.scope (Called column callee (Some (as_list given)) ∷ []) (in_actuals given) ours in
          expand routines p.scope w b slots n ts s (CallOf column callee given)
          (subst (λ z. Fit slots n z s) (sym (append_assoc (each_actual (as_list given)) (task.Call true callee (as_list given) ∷ []) ts))
          (actuals_fit given rest slots (task.Call true callee (as_list given) ∷ ts) s (λ u. Leads (extrinsic p column callee (as_list given)) u A S Q)
          (leads_both A S Q (capture_actuals p given) (extrinsic p column callee (as_list given)) (given_keep p given) (extrinsic_keeps p column callee (as_list given)) s l)
          (λ u m. call column callee (Some (as_list given)) (one (Called column callee (Some (as_list given))) (0, omega arith, refl)) slots ts u A m
          (λ x a. any_of (CallOf column callee given) (λ shared. refl) slots ts x refl (k x a)))))

      pub links_fit : (rest : Links) → AreOurs p.scope (in_links rest) → (by : (List ℕ → Bool) → Sym) (slots : List Slot) (ts : List Task) (s : State) (A : State → Type 0) → Leads (evaluate_links p rest) s A S Q
          → ((u : State) → A u → FitBy (λ shared. chain_symbol shared (by shared) rest) slots n ts u) → FitBy by slots n (operation rest ++ ts) s
      links_fit no_links ours by slots ts s A l k j v more d e knows tasks = k s (leads_stay A S Q s l) j v more d e knows tasks
      links_fit (link op t rest) ours by slots ts s A l k j v more d e knows tasks =
          ⊎_elim
          (λ (z : (text : List ℕ) × (t ≡ PatternText text)).
          let P : Tree → Type 0 = λ x. Leads (evaluate_links p (link op x rest)) s A S Q
          → ((u : State) → A u → FitBy (λ shared. chain_symbol shared (by shared) (link op x rest)) slots n ts u) → FitBy by slots n (operation (link op x rest) ++ ts) s in
          let pattern : P (PatternText z.0) = (λ m g. pattern_fits op z.0 by slots (operation rest ++ ts) s (links_fit rest (ours_right p.scope (in_tree t) (in_links rest) ours) (λ shared. between_symbols op (by shared) known.Unknown) slots ts s A m g)) in
          subst P (sym z.1) pattern l k j v more d e knows tasks)
          (λ (z : operation (link op t rest) ≡ task.Evaluate t ∷ task.ApplyBinary op ∷ operation rest).
          evaluate_fits t (ours_left p.scope (in_tree t) (in_links rest) ours) (Bare (Some v) ∷ slots) (task.ApplyBinary op ∷ (operation rest ++ ts)) s (λ u. Leads (evaluate_links p rest) u A S Q)
          (leads_both A S Q (evaluate p ItsValue t) (evaluate_links p rest) (evaluated_keeps p ItsValue t) (linked_keep p rest) s l)
          (λ u m. binary routines p.scope w b slots n (operation rest ++ ts) u op by v t knows.constant
          (links_fit rest (ours_right p.scope (in_tree t) (in_links rest) ours) (λ shared. between_symbols op (by shared) (symbol_of shared t)) slots ts u A m k))
          j (know_law p.scope w b None slots s (idle j) d v more e (Some v) refl) (tasks ∙ ap (λ y. y ++ ts) z))
          (operand op t rest)

      pub subs_fit : (subs : Subs) → AreOurs p.scope (in_subs subs) → (slots : List Slot) (ts : List Task) (s : State) (A : State → Type 0) → Leads (capture_subs p subs) s A S Q
          → ((u : State) → A u → Fit (kepts (count_subs subs) slots) n ts u) → Fit slots n (each_sub subs ++ ts) s
      subs_fit no_subs ours slots ts s A l k = k s (leads_stay A S Q s l)
      subs_fit (sub column t rest) ours slots ts s A l k =
          let whole = leads_both A S Q (λ v. capture p.scope t (evaluate p ItsValue t v)) (capture_subs p rest)
          (both (evaluate p ItsValue t) (capture p.scope t) (evaluated_keeps p ItsValue t) (capture_keeps p.scope t)) (captured_keep p rest) s l in
          let B : State → Type 0 = λ u. Leads (capture_subs p rest) u A S Q in
          evaluate_fits t (ours_left p.scope (in_tree t) (in_subs rest) ours) slots (each_sub rest ++ ts) s (λ u. Leads (capture p.scope t) u B S Q)
          (leads_both B S Q (evaluate p ItsValue t) (capture p.scope t) (evaluated_keeps p ItsValue t) (capture_keeps p.scope t) s whole)
          (λ u m j v more d e knows tasks.
          subs_fit rest (ours_right p.scope (in_tree t) (in_subs rest) ours) (Kept ∷ slots) ts (with_symbol_of p.scope t u) A (leads_mapped B S Q (with_symbol_of p.scope t) u m) k j
          (capture_law p.scope w b None slots u (idle j) d v more e (symbol_in p.scope t u) knows.symbol.stands (λ x i. local_unshared (p.scope.is_shared u.case.own) t x i))
          tasks)

      -- arguments that are kept as values only
      pub trees_fit : (args : Trees) → AreOurs p.scope (in_trees args) → (slots : List Slot) (ts : List Task) (s : State) (A : State → Type 0) → Leads (evaluate_all p ItsValue args) s A S Q
          → ((u : State) → A u → Fit (bares (run.count_trees args) slots) n ts u) → Fit slots n (each_tree args ++ ts) s
      trees_fit no_trees ours slots ts s A l k = k s (leads_stay A S Q s l)
      trees_fit (tree t rest) ours slots ts s A l k =
          evaluate_fits t (ours_left p.scope (in_tree t) (in_trees rest) ours) slots (each_tree rest ++ ts) s (λ u. Leads (evaluate_all p ItsValue rest) u A S Q)
          (leads_both A S Q (evaluate p ItsValue t) (evaluate_all p ItsValue rest) (evaluated_keeps p ItsValue t) (all_keep p ItsValue rest) s l)
          (λ u m j v more d e knows tasks. trees_fit rest (ours_right p.scope (in_tree t) (in_trees rest) ours) (Bare None ∷ slots) ts u A m k j d tasks)

      -- subscripts of a name that is an argument of a function, and the further arguments
      parts_fit : (args : Trees) → AreOurs p.scope (in_trees args) → NameParts args
      parts_fit no_trees ours = tt
      parts_fit (tree (GlobalName column name subs) more) ours = record {
        subscripts = subs_fit subs (ours_left p.scope (in_subs subs) (in_trees more) ours);
        others = trees_fit more (ours_right p.scope (in_subs subs) (in_trees more) ours);
      }
      parts_fit (tree (LocalName name subs) more) ours = record {
        subscripts = subs_fit subs (ours_left p.scope (in_subs subs) (in_trees more) ours);
        others = trees_fit more (ours_right p.scope (in_subs subs) (in_trees more) ours);
      }
      parts_fit (tree (Lit v) more) ours = tt
      parts_fit (tree Free more) ours = tt
      parts_fit (tree (SpecialName x) more) ours = tt
      parts_fit (tree (Prefixed op t) more) ours = tt
      parts_fit (tree (Chain first rest) more) ours = tt
      parts_fit (tree (PatternText text) more) ours = tt
      parts_fit (tree (Func g given) more) ours = tt
      parts_fit (tree (Selected cs) more) ours = tt
      parts_fit (tree (BareCall column callee) more) ours = tt
      parts_fit (tree (CallOf column callee given) more) ours = tt

      -- `$SELECT`
      choices_fit : (cs : Choices) → AreOurs p.scope (in_choices cs) → (slots : List Slot) (ts : List Task) (s : State) (A : State → Type 0) → Leads (evaluate_choices p cs) s A S Q
          → ((u : State) → A u → FitAny slots n ts u) → Fit slots n (task.Select cs ∷ ts) s
      choices_fit no_choices ours slots ts s A l k j d tasks =
          plain_step routines p.scope w b slots n ts s (task.Select no_choices) refl j tasks (λ free c. unasked (Safe routines p.scope w b n) c _ (refused (Safe routines p.scope w b n) _))
      choices_fit (choice t v rest) ours slots ts s A l k j d tasks =
          let here = ours_left p.scope (in_tree t) (in_tree v ++ in_choices rest) ours in
          let there = ours_right p.scope (in_tree t) (in_tree v ++ in_choices rest) ours in
          let G : Walk → Walk = by_condition p.scope t (evaluate p ItsValue v) (evaluate_choices p rest) in
          let to : Job = doing (task.Evaluate t ∷ task.Selected v rest ∷ ts) j in
          plain_step routines p.scope w b slots n ts s (task.Select (choice t v rest)) refl j tasks (λ free c.
          unasked (Safe routines p.scope w b n) c _ (done (Safe routines p.scope w b n) to
          (evaluate_fits t here slots (task.Selected v rest ∷ ts) s (λ u. Leads G u A S Q)
          (leads_both A S Q (evaluate p ItsValue t) G (evaluated_keeps p ItsValue t) (ways_keep p.scope t (evaluate p ItsValue v) (evaluate_choices p rest) (evaluated_keeps p ItsValue v) (chosen_keep p rest)) s l)
          (λ u m i x more f g knows at.
          plain_step routines p.scope w b (Bare None ∷ slots) n ts u (task.Selected v rest) refl i at (λ free' c'.
          of_last (Safe routines p.scope w b n) i.values _ (λ y below ey.
          let same : y ≡ x = (let z : y ∷ below ≡ x ∷ more = sym ey ∙ g in cc) in
          of_known (Safe routines p.scope w b n) c' (truth_of_text y) _ (λ z is_known.
          let less : Describes p.scope w b slots u (idle (dropped 1 i)) = subst (λ q. Describes p.scope w b slots u (record (idle i) { values = q })) (sym (ap (drop 1) g)) (drop_law p.scope w b None slots u (idle i) f x more g) in
          let may : agrees z (truth_in p.scope t u) ≡ true = truth_agrees (truth_in p.scope t u) x knows.truth z (λ q h. is_known q (ap truth_of_text same ∙ h)) in
          way_fits t v rest slots ts u A
          (λ h. evaluate_fits v (ours_left p.scope (in_tree v) (in_choices rest) there) slots ts u A h (λ x a. to_any v slots ts x (k x a)))
          (λ h. choices_fit rest (ours_right p.scope (in_tree v) (in_choices rest) there) slots ts u A h k) m z may i less))))
          to d refl)))

      -- actuals: one by reference, and a missing one, has no value
      pub actuals_fit : (given : Actuals) → AreOurs p.scope (in_actuals given) → (slots : List Slot) (ts : List Task) (s : State) (A : State → Type 0) → Leads (capture_actuals p given) s A S Q
          → ((u : State) → A u → Fit (given_slots (as_list given) slots) n ts u) → Fit slots n (each_actual (as_list given) ++ ts) s
      actuals_fit no_actuals ours slots ts s A l k = k s (leads_stay A S Q s l)
      actuals_fit (actual (Given t) rest) ours slots ts s A l k =
          let B : State → Type 0 = λ u. Leads (capture_actuals p rest) u A S Q in
          let whole = leads_both A S Q (capture_actual p (Given t)) (capture_actuals p rest) (one_given_keeps p (Given t)) (given_keep p rest) s l in
          evaluate_fits t (ours_left p.scope (in_tree t) (in_actuals rest) ours) slots (each_actual (as_list rest) ++ ts) s (λ u. Leads (capture p.scope t) u B S Q)
          (leads_both B S Q (evaluate p ItsValue t) (capture p.scope t) (evaluated_keeps p ItsValue t) (capture_keeps p.scope t) s whole)
          (λ u m j v more d e knows tasks.
          actuals_fit rest (ours_right p.scope (in_tree t) (in_actuals rest) ours) (Kept ∷ slots) ts (with_symbol_of p.scope t u) A (leads_mapped B S Q (with_symbol_of p.scope t) u m) k j
          (capture_law p.scope w b None slots u (idle j) d v more e (symbol_in p.scope t u) knows.symbol.stands (λ x i. local_unshared (p.scope.is_shared u.case.own) t x i))
          tasks)
      actuals_fit (actual (ByRef column name) rest) ours slots ts s A l k =
          let B : State → Type 0 = λ u. Leads (capture_actuals p rest) u A S Q in
          let whole = leads_both A S Q (capture_actual p (ByRef column name)) (capture_actuals p rest) (one_given_keeps p (ByRef column name)) (given_keep p rest) s l in
          λ j d tasks. actuals_fit rest ours (Blank ∷ slots) ts (with_symbol known.Unknown s) A (leads_mapped B S Q (with_symbol known.Unknown) s whole) k j
          (blank_law routines p.scope w b slots n ts s (idle j) d) tasks
      actuals_fit (actual Missing rest) ours slots ts s A l k =
          let B : State → Type 0 = λ u. Leads (capture_actuals p rest) u A S Q in
          let whole = leads_both A S Q (capture_actual p Missing) (capture_actuals p rest) (one_given_keeps p Missing) (given_keep p rest) s l in
          λ j d tasks. actuals_fit rest ours (Blank ∷ slots) ts (with_symbol known.Unknown s) A (leads_mapped B S Q (with_symbol known.Unknown) s whole) k j
          (blank_law routines p.scope w b slots n ts s (idle j) d) tasks
