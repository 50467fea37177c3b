-- DO of labels, and JOB: their actuals, a condition, and the call.
use Rattle.std.proofs.Common.{◌≡◌, ℕ, suc, Bool, true, false, List, [], ◌∷◌, ◌++◌, length, reverse, drop, Option, Some, None, Ok, Err, refl, sym, ap, ◌∙◌, subst, arith, inl, append_assoc}
use Rattle.std.specs.Prelude.{if◌then◌else◌}
use Rattle.mlk_text.specs.declared.code.Code.TheVariants.{NoCertificate}
use Rattle.mlk_names.specs.Lists.{Among}
use Rattle.mlk_syntax.specs.declared.expr.Callee.{Callee}
use Rattle.mlk_syntax.specs.ExprTrees.{Tree, ActualTree, Given, ByRef, Missing, Actuals, actuals_from, as_list}
use Rattle.mlk_syntax.specs.Trees.{RoutineTree, CallTree, Called, DoTree, DoCall}
use Rattle.mlk_syntax.proofs.TreeLists.{as_list_same}
use Rattle.mlk_program.specs.Calls.{in_tree, in_actuals, in_given, in_call, in_do}
use Rattle.mlk_program.specs.Entries.{target_of}
use Rattle.mlk_cert_parts.specs.declared.case.Case.{Case}
use Rattle.mlk_machine_jobs.specs.Tasks as task
use Rattle.mlk_machine_jobs.specs.Tasks.{marks, Task, Job, NoValue}
use Rattle.mlk_machine_jobs.specs.Choices.{dropped, doing}
use Rattle.mlk_machine_jobs.specs.Calling.{called, called_if, count_given}
use Rattle.mlk_machine_jobs.specs.Commands as made
use Rattle.mlk_machine_jobs.specs.Commands.{do_parts, job_parts}
use Rattle.mlk_machine_jobs.specs.Expressions.{each_actual}
use Rattle.mlk_walk_state.specs.declared.state.State.{State}
use Rattle.mlk_walk_state.specs.Scope.{Scope, has_entry}
use Rattle.mlk_walk_state.specs.States.{without_last}
use Rattle.mlk_calls.specs.Calls.{is_begun}
use Rattle.mlk_walk_exprs.specs.declared.walk.Walk.{Walk}
use Rattle.mlk_walk_exprs.specs.declared.walk.Quit.{Quit}
use Rattle.mlk_walk_exprs.specs.Walks.{Outcome, Goes, Refused, each, placed}
use Rattle.mlk_walk_exprs.specs.Spots.{Spot}
use Rattle.mlk_walk_exprs.specs.Expressions.{capture_actuals, by_condition, value}
use Rattle.mlk_walk_commands.specs.Arguments.{do_argument, do_row, job_argument, job_row, forget_given, given_list, capture_given}
use Rattle.mlk_walk_laws.proofs.Counts.{ways_keep}
use Rattle.mlk_walk_laws.proofs.Transfers.{both, each_keeps, changed_keeps}
use Rattle.mlk_walk_laws.proofs.Walks.{value_keeps, actuals_keep}
use Rattle.mlk_soundness_machine.specs.Reads.{now}
use Rattle.mlk_soundness_machine.specs.Described.{some_local, World, Level, Slot, Fills, idle, Describes}
use Rattle.mlk_soundness_machine.proofs.Facts.{plain_facts, job_facts}
use Rattle.mlk_soundness_machine.proofs.Reading.{local_front}
use Rattle.mlk_soundness_machine.specs.Safe.{SafeFor, KeepsTo}
use Rattle.mlk_soundness_machine.specs.History.{count_frames}
use Rattle.mlk_soundness_machine.proofs.Going.{Next, as_many, by_step, less, step}
use Rattle.mlk_soundness_machine.proofs.Stack.{whole, others_are, others_turned, dropped_are}
use Rattle.mlk_soundness_machine.proofs.Steps.{Comes, done, unasked}
use Rattle.mlk_soundness_machine.proofs.Values.{Safe, Fits, FitsValue, plain_step}
use Rattle.mlk_soundness_walk.proofs.Alone.{Leads}
use Rattle.mlk_soundness_walk.proofs.Alone.{Meets, leads_both, leads_each, leads_changed}
use Rattle.mlk_soundness_walk.proofs.Acts.{calls_again, given_same, in_given_same}
use Rattle.mlk_soundness_walk.proofs.Calls.{given_slots, given_taken}
use Rattle.mlk_soundness_walk.specs.Ours.{IsOurs, AreOurs}
use Rattle.mlk_soundness_walk.proofs.Ours.{ours_left, ours_right}
use Rattle.mlk_soundness_walk.proofs.Turns.{condition_fits}
use Rattle.mlk_program.specs.declared.entry.EntryId.{EntryId}

-- actuals are not used
pub unused_given : (sc : Scope) (w : World) (b : Level) (given : List ActualTree) (slots : List Slot) (s : State) (j : Job) → Describes sc w b (given_slots given slots) s j
    → Describes sc w b slots (without_last (length given) s) (dropped (count_given given) j)
unused_given sc w b given slots s j d =
    let r = given_taken (now j) given slots (reverse s.captured) j.values w.values d.values in
    record {
      stands = d.stands;
      captured_sole = λ x h. d.captured_sole x
          (subst (λ z. some_local x z ≡ true) (sym (whole s.captured r.front r.syms (length given) r.symbols r.count))
          (local_front x (reverse r.syms) r.front (subst (λ z. some_local x z ≡ true) (others_are s.captured r.front r.syms (length given) r.symbols r.count) h)));
      values =
          subst (λ z. Fills (now j) slots z (drop (count_given given) j.values) w.values) (sym (others_turned s.captured r.front r.syms (length given) r.symbols r.count))
          (subst (λ z. Fills (now j) slots r.syms z w.values) (sym (dropped_are j.values r.vals r.more (count_given given) r.values_are r.many)) r.fills);
    }

count_same : (given : List ActualTree) → length (each_actual given) ≡ count_given given
count_same [] = refl
count_same (Given t ∷ given) = ap suc (count_same given)
count_same (ByRef column name ∷ given) = count_same given
count_same (Missing ∷ given) = count_same given

module _ (routines : List RoutineTree) (p : Spot) (w : World) (b : Level) (S : Case → Type 0) (Q : Quit → Type 0) (n : ℕ)
    (evaluate : (t : Tree) → AreOurs p.scope (in_tree t) → (slots : List Slot) (ts : List Task) (s : State) (A : State → Type 0) → Leads (value p t) s A S Q
    → ((u : State) → A u → FitsValue routines p.scope w b t slots n ts u) → Fits routines p.scope w b slots n (task.Evaluate t ∷ ts) s)
    (actuals_fit : (given : Actuals) → AreOurs p.scope (in_actuals given) → (slots : List Slot) (ts : List Task) (s : State) (A : State → Type 0) → Leads (capture_actuals p given) s A S Q
    → ((u : State) → A u → Fits routines p.scope w b (given_slots (as_list given) slots) n ts u) → Fits routines p.scope w b slots n (each_actual (as_list given) ++ ts) s) where
  abbrev Fit : List Slot → ℕ → List Task → State → Type 0
  Fit = Fits routines p.scope w b

  given_fit : (column : ℕ) (callee : Callee) (written : Option (List ActualTree)) → AreOurs p.scope (in_given written) → (ts : List Task) (s : State) (A : State → Type 0)
      → Leads (capture_given p (Called column callee written)) s A S Q → ((u : State) → A u → Fit (given_slots (given_list written) []) n ts u) → Fit [] n (each_actual (made.given_in written) ++ ts) s
  given_fit column callee written ours ts s A l k =
      subst (λ z. Fit [] n (each_actual z ++ ts) s) (as_list_same (given_list written) ∙ sym (given_same written))
      (actuals_fit (actuals_from (given_list written)) (subst (AreOurs p.scope) (in_given_same written ∙ sym (calls_again (given_list written))) ours) [] ts s A l
      (λ u a. subst (λ z. Fit (given_slots z []) n ts u) (sym (as_list_same (given_list written))) (k u a)))

  module _
      (call : (column : ℕ) (callee : Callee) (written : Option (List ActualTree)) → IsOurs p.scope (Called column callee written) → (ts : List Task) (s : State) (A : State → Type 0)
      → Leads (each (do_row p (Called column callee written))) s A S Q → ((u : State) → A u → Fit [] n ts u) → (j : Job) → Describes p.scope w b (given_slots (given_list written) []) s (idle j)
      → (m : ℕ) → n ≡ suc m → Comes (Next routines p.scope w b ts m) (called routines NoValue (target_of routines j.routine callee) (given_list written) ts j)) where
    call_step : (column : ℕ) (callee : Callee) (written : Option (List ActualTree)) → IsOurs p.scope (Called column callee written) → (ts : List Task) (s : State) (A : State → Type 0)
        → Leads (each (do_row p (Called column callee written))) s A S Q → ((u : State) → A u → Fit [] n ts u) → Fit (given_slots (given_list written) []) n (task.Call false callee (given_list written) ∷ ts) s
    call_step column callee written ours ts s A l k j d tasks =
        by_step routines p.scope w b n j (task.Call false callee (given_list written) ∷ ts) tasks (plain_facts p.scope w b j (task.Call false callee (given_list written)) ts tasks refl) (λ m same free c.
        unasked (Next routines p.scope w b ts m) c _ (call column callee written ours ts s A l k j d m same))

    pub do_one_fits : (d : DoTree) → AreOurs p.scope (in_do d) → (ts : List Task) (s : State) (A : State → Type 0) → Leads (do_argument p d) s A S Q → ((u : State) → A u → Fit [] n ts u)
        → Fit [] n (do_parts d ++ ts) s
    do_one_fits (DoCall (Called column callee written) None) ours ts s A l k =
        let all = ours_left p.scope (Called column callee written ∷ in_given written) [] ours in
        subst (λ z. Fit [] n ((each_actual (made.given_in written) ++ task.Call false callee z ∷ []) ++ ts) s) (sym (given_same written))
        (subst (λ z. Fit [] n z s) (sym (append_assoc (each_actual (made.given_in written)) (task.Call false callee (given_list written) ∷ []) ts))
        (given_fit column callee written (ours_right p.scope (Called column callee written ∷ []) (in_given written) all) (task.Call false callee (given_list written) ∷ ts) s
        (λ u. Leads (each (do_row p (Called column callee written))) u A S Q)
        (leads_both A S Q (capture_given p (Called column callee written)) (each (do_row p (Called column callee written))) (actuals_keep p (Called column callee written)) (each_keeps (do_row p (Called column callee written))) s l)
        (λ u m. call_step column callee written (all (Called column callee written) (0, omega arith, refl)) ts u A m k)))
    do_one_fits (DoCall (Called column callee written) (Some t)) ours ts s A l k =
        let c : CallTree = Called column callee written in
        let all = ours_left p.scope (Called column callee written ∷ in_given written) (in_tree t) ours in
        let G : Walk → Walk = λ v. by_condition p.scope t (each (do_row p (Called column callee written))) (forget_given (Called column callee written)) (value p t v) in
        let G_keeps = both (value p t) (by_condition p.scope t (each (do_row p c)) (forget_given c)) (value_keeps p t)
        (ways_keep p.scope t (each (do_row p c)) (forget_given c) (each_keeps (do_row p c)) (changed_keeps (without_last (length (given_list written))))) in
        subst (λ z. Fit [] n ((each_actual (made.given_in written) ++ task.Evaluate t ∷ task.CallIf callee z ∷ []) ++ ts) s) (sym (given_same written))
        (subst (λ z. Fit [] n z s) (sym (append_assoc (each_actual (made.given_in written)) (task.Evaluate t ∷ task.CallIf callee (given_list written) ∷ []) ts))
        (given_fit column callee written (ours_right p.scope (Called column callee written ∷ []) (in_given written) all) (task.Evaluate t ∷ task.CallIf callee (given_list written) ∷ ts) s
        (λ u. Leads G u A S Q)
        (leads_both A S Q (capture_given p c) G (actuals_keep p c) G_keeps s l)
        (λ u m. condition_fits routines p w b S Q n evaluate t (each (do_row p c)) (forget_given c) (each_keeps (do_row p c)) (changed_keeps (without_last (length (given_list written))))
        (given_slots (given_list written) []) (task.CallIf callee (given_list written)) refl ts (λ x i. called_if x routines (target_of routines i.routine callee) (given_list written) ts i) (λ free y i. refl) A
        (Next routines p.scope w b ts) (λ m free y i x at comes. comes)
        (λ y. Unit {0})
        (λ q is y from may h i d. call column callee written (all (Called column callee written) (0, omega arith, refl)) ts y A h k i d q is)
        (λ q is y h i d. passes_by column callee written ts y A h k i d q is)
        (ours_right p.scope (Called column callee written ∷ in_given written) (in_tree t) ours) u (λ y i. tt) m)))
      where
        passes_by : (column : ℕ) (callee : Callee) (written : Option (List ActualTree)) (ts : List Task) (y : State) (A : State → Type 0) → Leads (forget_given (Called column callee written)) y A S Q → ((u : State) → A u → Fit [] n ts u)
            → (i : Job) → Describes p.scope w b (given_slots (given_list written) []) y (idle i) → (q : ℕ) → n ≡ suc q → Comes (Next routines p.scope w b ts q) (Ok (doing ts (dropped (count_given (given_list written)) i)))
        passes_by column callee written ts y A h k i d q is =
            let to : Job = doing ts (dropped (count_given (given_list written)) i) in
            let at_n : Safe routines p.scope w b n to = k (without_last (length (given_list written)) y) (leads_changed A S Q (without_last (length (given_list written))) y h) to
            (unused_given p.scope w b (given_list written) [] y (idle i) d) refl in
            done (Next routines p.scope w b ts q) to (λ marked.
            subst (λ z. SafeFor routines (KeepsTo p.scope) q z to) (sym (as_many w.begun to (count_frames (marks ts)) refl)) (less routines p.scope w b q to (subst (λ z. Safe routines p.scope w b z to) is at_n) marked))

  -- JOB: the job that it starts is another one, whose entry is declared
  abbrev IsDeclared : Callee → Type 0
  IsDeclared callee = (e : EntryId) × (target_of p.scope.routines p.scope.own callee ≡ Some e) × (has_entry p.scope.declared_entries e ≡ true)

  pub job_one_fits : (c : CallTree) → AreOurs p.scope (in_call c) → (ts : List Task) (s : State) (A : State → Type 0) → Leads (job_argument p c) s A S Q → ((u : State) → A u → Fit [] n ts u)
      → Fit [] n (job_parts c ++ ts) s
  job_one_fits (Called column callee written) ours ts s A l k =
      let c : CallTree = Called column callee written in
      subst (λ z. Fit [] n ((each_actual (made.given_in written) ++ task.StartJob callee z ∷ []) ++ ts) s) (sym (given_same written))
      (subst (λ z. Fit [] n z s) (sym (append_assoc (each_actual (made.given_in written)) (task.StartJob callee (given_list written) ∷ []) ts))
      (given_fit column callee written (ours_right p.scope (Called column callee written ∷ []) (in_given written) ours) (task.StartJob callee (given_list written) ∷ ts) s (λ u. Leads (each (job_row p c)) u A S Q)
      (leads_both A S Q (capture_given p c) (each (job_row p c)) (actuals_keep p c) (each_keeps (job_row p c)) s l)
      (λ u m j d tasks.
      let r : IsDeclared callee × A (without_last (length (given_list written)) u) = begun column callee written u A (leads_each A S Q (job_row p c) u m) in
      let is : target_of p.scope.routines j.routine callee ≡ Some r.0.0 = ap (λ z. target_of p.scope.routines z callee) d.stands.routine ∙ r.0.1 in
      step routines p.scope w b n j (task.StartJob callee (given_list written)) ts tasks refl (job_facts p.scope w b j callee (given_list written) ts tasks r.0.0 is r.0.2) (λ free y.
      unasked (Safe routines p.scope w b n) y _ (done (Safe routines p.scope w b n) (doing ts (dropped (count_given (given_list written)) j))
      (k (without_last (length (given_list written)) u) r.1 (doing ts (dropped (count_given (given_list written)) j))
      (unused_given p.scope w b (given_list written) [] u (idle j) d) refl))))))
    where
      begun : (column : ℕ) (callee : Callee) (written : Option (List ActualTree)) (u : State) (A : State → Type 0) → ((o : Outcome) → Among o (job_row p (Called column callee written) u) → Meets A S Q o)
          → IsDeclared callee × A (without_last (length (given_list written)) u)
      begun column callee written u A h = of (target_of p.scope.routines p.scope.own callee) refl h
        where
          by : (e : EntryId) → target_of p.scope.routines p.scope.own callee ≡ Some e → (x : Bool) → has_entry p.scope.declared_entries e ≡ x
              → ((o : Outcome) → Among o (placed p.line column (if x then Ok (without_last (length (given_list written)) u) else Err NoCertificate)) → Meets A S Q o) → IsDeclared callee × A (without_last (length (given_list written)) u)
          by e is true declared g = ((e, is, declared), g (Goes (without_last (length (given_list written)) u)) (inl refl))
          by e is false declared g = absurd (g (Refused p.line column NoCertificate) (inl refl))

          of : (o : Option EntryId) → target_of p.scope.routines p.scope.own callee ≡ o
              → ((x : Outcome) → Among x (placed p.line column (if is_begun p.scope o then Ok (without_last (length (given_list written)) u) else Err NoCertificate)) → Meets A S Q x) → IsDeclared callee × A (without_last (length (given_list written)) u)
          of None is g = absurd (g (Refused p.line column NoCertificate) (inl refl))
          of (Some e) is g = by e is (has_entry p.scope.declared_entries e) refl g
