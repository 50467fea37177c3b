-- SET as a whole: targets, value, assignments; then what was captured is dropped.
use Rattle.std.proofs.Common.{◌≡◌, ℕ, zero, suc, ◌+◌, ◌-◌, true, List, [], ◌∷◌, ◌++◌, length, take, drop, reverse, None, refl, sym, ap, ◌∙◌, subst, arith, append_assoc, length-append}
use Rattle.std.specs.Prelude.{flat_map}
use Rattle.std.specs.List.{AllZip}
use Rattle.mlk_names.specs.declared.symbol.Sym.{Sym}
use Rattle.mlk_names.specs.Symbols.{Assignment, StandsFor}
use Rattle.mlk_syntax.specs.ExprTrees.{Tree, Subs, count_subs}
use Rattle.mlk_syntax.specs.Trees.{RoutineTree, TargetTree, SetTo}
use Rattle.mlk_cert_parts.specs.declared.case.Case.{Case}
use Rattle.mlk_machine_jobs.specs.Tasks as task
use Rattle.mlk_machine_jobs.specs.Tasks.{Task, Job}
use Rattle.mlk_machine_jobs.specs.Choices.{doing, dropped, last_values}
use Rattle.mlk_machine_jobs.specs.Expressions.{each_sub}
use Rattle.mlk_machine_jobs.specs.Commands.{target_parts, set_parts}
use Rattle.mlk_machine_jobs.specs.Assigning.{assignments, subs_of_target, parts_in, count_parts}
use Rattle.mlk_walk_state.specs.declared.state.State.{State}
use Rattle.mlk_walk_state.specs.Scope.{Scope}
use Rattle.mlk_walk_state.specs.States.{without_last}
use Rattle.mlk_walk_exprs.specs.declared.walk.Quit.{Quit}
use Rattle.mlk_walk_exprs.specs.Spots.{Spot}
use Rattle.mlk_walk_exprs.specs.Expressions.{capture_subs, value}
use Rattle.mlk_walk_commands.specs.Variables.{count_in}
use Rattle.mlk_walk_commands.specs.Arguments.{variable_in, capture_targets, assign_all, count_from, count_targets, forget, set_argument}
use Rattle.mlk_walk_laws.proofs.Transfers.{both, changed_keeps}
use Rattle.mlk_walk_laws.proofs.Walks.{value_keeps, targets_keep, all_assigned_keep}
use Rattle.mlk_soundness_machine.specs.Reads.{now}
use Rattle.mlk_soundness_machine.specs.Described.{some_local, World, Level, Slot, Bare, Fills, IsWorld, idle, Describes}
use Rattle.mlk_soundness_machine.proofs.Reading.{differs}
use Rattle.mlk_soundness_machine.proofs.Worlds.{drop_law}
use Rattle.mlk_soundness_machine.proofs.Steps.{done, unasked, of_last}
use Rattle.mlk_soundness_machine.proofs.Values.{Safe, Fits, FitsValue, plain_step}
use Rattle.mlk_soundness_machine.proofs.Stack.{kepts, taken_are, dropped_are}
use Rattle.mlk_program.specs.Calls.{in_tree, in_subs, in_target, in_set}
use Rattle.mlk_soundness_walk.specs.Ours.{AreOurs}
use Rattle.mlk_soundness_walk.proofs.Ours.{ours_left, ours_right}
use Rattle.mlk_soundness_walk.proofs.Alone.{Leads}
use Rattle.mlk_soundness_walk.proofs.Alone.{leads_both, leads_changed}
use Rattle.mlk_soundness_walk.proofs.Lines.{none_local}
use Rattle.mlk_soundness_walk.proofs.Sets.{all_slots, subs_values, AllTaken, all_taken, targets_fit}
use Rattle.mlk_soundness_walk.proofs.Assigns.{spents, spent_fills, spent_taken, captured_stand, counted, enough, taken_size, dropped_size, targets_assigned}

pub zip_size : (a : Assignment) (xs : List Sym) (ys : List (List ℕ)) → AllZip (StandsFor a) xs ys → length xs ≡ length ys
zip_size a [] [] h = refl
zip_size a [] (y ∷ ys) h = absurd h
zip_size a (x ∷ xs) [] h = absurd h
zip_size a (x ∷ xs) (y ∷ ys) h = ap suc (zip_size a xs ys h.1)

-- the walk drops as many symbols as the targets have subscripts
count_is_size : (n : ℕ) (targets : List TargetTree) (needs : List (List ℕ)) → length needs ≡ count_parts targets → count_from n targets ≡ n + length (subs_values targets needs)
count_is_size n [] needs e = omega arith
count_is_size n (t ∷ targets) needs e =
    let left : length (drop (parts_in t) needs) ≡ count_parts targets = (let x = dropped_size (parts_in t) needs in omega (arith, x, e)) in
    let h = count_is_size (n + count_in (variable_in t)) targets (drop (parts_in t) needs) left in
    let size = taken_size (subs_of_target t) needs (enough t (count_parts targets) (length needs) e) in
    let both_size = length-append (take (subs_of_target t) needs) (subs_values targets (drop (parts_in t) needs)) in
    let c = counted t in
    omega (arith, h, size, both_size, c)

nothing_left : {A : Type 0} (xs : List A) (n : ℕ) → length xs ≡ n → take (length xs - n) xs ≡ []
nothing_left xs n e = let z : length xs - n ≡ 0 = omega (arith, e) in ap (λ k. take k xs) z

drop_one : {A : Type 0} (n : ℕ) (xs : List A) → drop (suc n) xs ≡ drop n (drop 1 xs)
drop_one zero [] = refl
drop_one (suc n) [] = refl
drop_one n (x ∷ xs) = refl

-- nothing is captured below what is used
pub bottom : (a : Assignment) (ss : List Sym) (values below : List (List ℕ)) → Fills a [] ss values below → (ss ≡ []) × (values ≡ below)
bottom a [] values below f = (refl, f)
bottom a (s ∷ ss) values below f = absurd f

module _ (sc : Scope) (w : World) (b : Level) (targets : List TargetTree) (u : State) (j : Job) (d : Describes sc w b (all_slots targets []) u (idle j)) where
  pub needed : AllTaken (now j) targets [] (reverse u.captured) j.values w.values
  needed = all_taken (now j) targets [] (reverse u.captured) j.values w.values d.values

  pub needs_are : last_values (count_parts targets) j ≡ needed.needs
  needs_are = taken_are j.values needed.needs needed.more (count_parts targets) needed.are needed.many

  -- the values are used, the symbols stay
  pub spent_law : Describes sc w b (spents (subs_values targets needed.needs) []) u (idle (dropped (count_parts targets) j))
  spent_law =
      let low = bottom (now j) needed.syms needed.more w.values needed.fills in
      let f = spent_fills (now j) needed.front (subs_values targets needed.needs) [] [] w.values w.values needed.stand refl in
      let g : reverse u.captured ≡ reverse needed.front ++ [] = needed.symbols ∙ ap (λ z. reverse needed.front ++ z) low.0 in
      let h : drop (count_parts targets) j.values ≡ w.values = dropped_are j.values needed.needs needed.more (count_parts targets) needed.are needed.many ∙ low.1 in
      record {
        stands = d.stands;
        captured_sole = d.captured_sole;
        values =
            subst (λ z. Fills (now j) (spents (subs_values targets needed.needs) []) (reverse u.captured) z w.values) (sym h)
            (subst (λ z. Fills (now j) (spents (subs_values targets needed.needs) []) z w.values w.values) (sym g) f);
      }

-- all symbols are dropped
pub forgotten : (sc : Scope) (w : World) (b : Level) (vals : List (List ℕ)) (n : ℕ) → length vals ≡ n → (u : State) (j : Job) → Describes sc w b (spents vals []) u j → Describes sc w b [] (without_last n u) j
forgotten sc w b vals n e u j d =
    let z = zip_size (now j) u.captured vals (captured_stand sc w b vals u j d) in
    let g : take (length u.captured - n) u.captured ≡ [] = nothing_left u.captured n (z ∙ e) in
    let r = spent_taken (now j) vals [] (reverse u.captured) j.values w.values d.values in
    record {
      stands = d.stands;
      captured_sole = λ x h. (let k : some_local x [] ≡ true = subst (λ q. some_local x q ≡ true) g h in differs (some_local x []) k (none_local x));
      values = subst (λ q. Fills (now j) [] (reverse q) j.values w.values) (sym g) (bottom (now j) r.syms j.values w.values r.fills).1;
    }

module _ (routines : List RoutineTree) (p : Spot) (w : World) (b : Level) (world : IsWorld p.scope w) (S : Case → Type 0) (Q : Quit → Type 0) (n : ℕ)
    (evaluate : (t : Tree) → AreOurs p.scope (in_tree t) → (slots : List Slot) (ts : List Task) (s : State) (A : State → Type 0) → Leads (value p t) s A S Q
    → ((u : State) → A u → FitsValue routines p.scope w b t slots n ts u) → Fits routines p.scope w b slots n (task.Evaluate t ∷ ts) s)
    (subs_fit : (subs : Subs) → AreOurs p.scope (in_subs subs) → (slots : List Slot) (ts : List Task) (s : State) (A : State → Type 0) → Leads (capture_subs p subs) s A S Q
    → ((u : State) → A u → Fits routines p.scope w b (kepts (count_subs subs) slots) n ts u) → Fits routines p.scope w b slots n (each_sub subs ++ ts) s) where
  abbrev Fit : List Slot → ℕ → List Task → State → Type 0
  Fit = Fits routines p.scope w b

  -- the targets' values and the value are on the stack
  assign_fits : (targets : List TargetTree) (ts : List Task) (u : State) (A : State → Type 0) → Leads (λ v. forget (count_targets targets) (assign_all p 0 targets v)) u A S Q
      → ((x : State) → A x → Fit [] n ts x) → (x : List ℕ) (j : Job) (d : Describes p.scope w b (all_slots targets []) u (idle j)) → j.tasks ≡ assignments x (last_values (count_parts targets) j) targets ++ ts
      → Safe routines p.scope w b n (dropped (count_parts targets) j)
  assign_fits targets ts u A l k x j d tasks =
      let r = needed p.scope w b targets u (idle j) d in
      let z : 0 + length (subs_values targets r.needs) ≡ length (subs_values targets r.needs) = omega arith in
      let size : length (subs_values targets r.needs) ≡ count_targets targets = sym (count_is_size 0 targets r.needs r.many ∙ z) in
      targets_assigned routines p w b world S Q (subs_values targets r.needs) n x ts targets 0 r.needs refl r.many u (λ y. Leads (forget (count_targets targets)) y A S Q)
      (leads_both A S Q (assign_all p 0 targets) (forget (count_targets targets)) (all_assigned_keep p 0 targets) (changed_keeps (without_last (count_targets targets))) u l)
      (λ y m i given at. k (without_last (count_targets targets) y) (leads_changed A S Q (without_last (count_targets targets)) y m) i
      (forgotten p.scope w b (subs_values targets r.needs) (count_targets targets) size y (idle i) given) at)
      (dropped (count_parts targets) j) (spent_law p.scope w b targets u (idle j) d) (tasks ∙ ap (λ q. assignments x q targets ++ ts) (needs_are p.scope w b targets u (idle j) d))

  -- the value and what the targets need are used
  assign_step : (targets : List TargetTree) (ts : List Task) (u : State) (A : State → Type 0) → Leads (λ v. forget (count_targets targets) (assign_all p 0 targets v)) u A S Q
      → ((x : State) → A x → Fit [] n ts x) → (j : Job) → Describes p.scope w b (Bare None ∷ all_slots targets []) u (idle j) → (v : List ℕ) (more : List (List ℕ)) → j.values ≡ v ∷ more → j.tasks ≡ task.Assign targets ∷ ts
      → Safe routines p.scope w b n j
  assign_step targets ts u A l k j d v more e tasks =
      let low : more ≡ drop 1 j.values = sym (ap (drop 1) e) in
      let d1 : Describes p.scope w b (all_slots targets []) u (idle (dropped 1 j)) = subst (λ z. Describes p.scope w b (all_slots targets []) u (record (idle j) { values = z })) low (drop_law p.scope w b None (all_slots targets []) u (idle j) d v more e) in
      plain_step routines p.scope w b (all_slots targets []) n ts u (task.Assign targets) refl j tasks (λ free c.
      unasked (Safe routines p.scope w b n) c _ (of_last (Safe routines p.scope w b n) j.values _ (λ x rest ex.
      done (Safe routines p.scope w b n) (doing (assignments x (last_values (count_parts targets) (dropped 1 j)) targets ++ ts) (dropped (suc (count_parts targets)) j))
      (subst (λ z. Safe routines p.scope w b n (doing (assignments x (last_values (count_parts targets) (dropped 1 j)) targets ++ ts) (record j { values = z }))) (sym (drop_one (count_parts targets) j.values))
      (assign_fits targets ts u A l k x (doing (assignments x (last_values (count_parts targets) (dropped 1 j)) targets ++ ts) (dropped 1 j)) d1 refl)))))

  pub set_fits : (targets : List TargetTree) (t : Tree) → AreOurs p.scope (in_set (SetTo targets t)) → (ts : List Task) (s : State) (A : State → Type 0) → Leads (set_argument p (SetTo targets t)) s A S Q
      → ((u : State) → A u → Fit [] n ts u) → Fit [] n (set_parts (SetTo targets t) ++ ts) s
  set_fits targets t ours ts s A l k =
      subst (λ z. Fit [] n z s) (sym (append_assoc (flat_map target_parts targets) (task.Evaluate t ∷ task.Assign targets ∷ []) ts))
      (targets_fit routines p w b S Q n evaluate subs_fit targets (ours_left p.scope (flat_map in_target targets) (in_tree t) ours) [] (task.Evaluate t ∷ task.Assign targets ∷ ts) s (λ u. Leads (λ v. forget (count_targets targets) (assign_all p 0 targets (value p t v))) u A S Q)
      (leads_both A S Q (capture_targets p targets) (λ v. forget (count_targets targets) (assign_all p 0 targets (value p t v))) (targets_keep p targets)
      (both (value p t) (λ v. forget (count_targets targets) (assign_all p 0 targets v)) (value_keeps p t) (both (assign_all p 0 targets) (forget (count_targets targets)) (all_assigned_keep p 0 targets) (changed_keeps (without_last (count_targets targets))))) s l)
      (λ u m. evaluate t (ours_right p.scope (flat_map in_target targets) (in_tree t) ours) (all_slots targets []) (task.Assign targets ∷ ts) u (λ x. Leads (λ v. forget (count_targets targets) (assign_all p 0 targets v)) x A S Q)
      (leads_both A S Q (value p t) (λ v. forget (count_targets targets) (assign_all p 0 targets v)) (value_keeps p t) (both (assign_all p 0 targets) (forget (count_targets targets)) (all_assigned_keep p 0 targets) (changed_keeps (without_last (count_targets targets)))) u m)
      (λ x g j v more d e knows tasks. assign_step targets ts x A g k j d v more e tasks)))
