-- Commands: the effect of each, from left to right.
use Rattle.std.proofs.Common.{◌≡◌, ℕ, ◌+◌, Bool, true, false, List, [], ◌∷◌, ◌++◌, reverse, map, Option, Some, None, refl, sym, ap, subst, inl, inr, suc, take, drop, ◌∙◌}
use Rattle.std.specs.Prelude.{flat_map, if◌then◌else◌}
use Rattle.mlk_names.specs.Lists.{Among}
use Rattle.mlk_syntax.specs.ExprTrees.{Tree, ActualTree, actuals_from}
use Rattle.mlk_syntax.specs.Trees.{RoutineTree, WriteTree, WriteValue, WriteCharacter, WriteFormat, ActionTree}
use Rattle.mlk_program.specs.Calls.{in_tree, in_actual, in_actuals, in_given, in_write}
use Rattle.mlk_cert_parts.specs.declared.case.Case.{Case}
use Rattle.mlk_cert_parts.specs.declared.case.Test.{Test}
use Rattle.mlk_cert_parts.specs.declared.case.Test.TheVariants.{Any, Zero, One}
use Rattle.mlk_machine_jobs.specs.Tasks as task
use Rattle.mlk_machine_jobs.specs.Tasks.{Task, Job}
use Rattle.mlk_machine_jobs.specs.Choices.{doing, same_truth}
use Rattle.mlk_machine_jobs.specs.Commands as made
use Rattle.mlk_machine_jobs.specs.Commands.{if_parts, write_parts}
use Rattle.mlk_machine_jobs.specs.Lines.{skipped, quit, to_end, answered}
use Rattle.mlk_walk_state.specs.declared.state.State.{State}
use Rattle.mlk_walk_state.specs.Cases.{known_test}
use Rattle.mlk_walk_state.specs.States.{at_rest}
use Rattle.mlk_walk_state.specs.States as state
use Rattle.mlk_walk_exprs.specs.declared.walk.Quit.{Quit}
use Rattle.mlk_walk_exprs.specs.Walks.{Outcome, Goes, Skips, Quits, each, few}
use Rattle.mlk_walk_exprs.specs.Spots.{Spot}
use Rattle.mlk_walk_exprs.specs.Expressions.{value}
use Rattle.mlk_walk_commands.specs.Arguments.{write_argument, given_list, given_in, if_argument, if_outcomes}
use Rattle.mlk_walk_lines.specs.Commands.{in_turn, if_row, else_row, swapped, quit_row, turn}
use Rattle.mlk_walk_laws.proofs.Counts.{few_keeps}
use Rattle.mlk_walk_laws.proofs.Transfers.{both, each_keeps}
use Rattle.mlk_walk_laws.proofs.Walks.{value_keeps, if_argument_keeps, turns_keep}
use Rattle.mlk_soundness_machine.specs.Frames.{Agrees}
use Rattle.mlk_soundness_machine.specs.Reads.{now}
use Rattle.mlk_soundness_machine.specs.Described.{some_local, World, Level, Slot, Bare, Fills, IsWorld, idle, Describes}
use Rattle.mlk_soundness_machine.proofs.Reading.{differs}
use Rattle.mlk_soundness_machine.proofs.Steps.{done, unasked}
use Rattle.mlk_soundness_machine.proofs.Values.{Safe, Fits, FitsValue, plain_step}
use Rattle.mlk_soundness_walk.proofs.Alone.{Leads}
use Rattle.mlk_soundness_walk.proofs.Alone.{Meets, leads_both, leads_each, leads_few, leads_stay}
use Rattle.mlk_soundness_walk.proofs.Commands.{if_one}
use Rattle.mlk_soundness_walk.specs.Commands.{Gives}
use Rattle.mlk_soundness_walk.proofs.Lines.{none_local, nothing, at_rest_law}
use Rattle.mlk_soundness_walk.specs.Ours.{AreOurs}
use Rattle.mlk_soundness_walk.proofs.Ours.{ours_left, ours_right}
use Rattle.mlk_soundness_walk.proofs.Turns.{evaluated_fits, optional_fits, leads_turn, come_further, one_dropped, ended_fits}
use Rattle.mlk_soundness_machine.specs.Places.{alone, come_to}
use Rattle.mlk_soundness_machine.specs.Safe.{KeepsIn}

-- what is skipped
pub skip_ifs : (a : ActionTree) (k : ℕ) (conditions : List Tree) (ts : List Task) → skipped (made.in_turn if_parts a k conditions ++ ts) ≡ skipped ts
skip_ifs a k [] ts = refl
skip_ifs a k (t ∷ conditions) ts = skip_ifs a (suc k) conditions ts

pub calls_again : (given : List ActualTree) → in_actuals (actuals_from given) ≡ flat_map in_actual given
calls_again [] = refl
calls_again (a ∷ given) = ap (λ z. in_actual a ++ z) (calls_again given)

pub given_same : (written : Option (List ActualTree)) → made.given_in written ≡ given_list written
given_same None = refl
given_same (Some given) = refl

pub in_given_same : (written : Option (List ActualTree)) → in_given written ≡ flat_map in_actual (given_list written)
in_given_same None = refl
in_given_same (Some given) = refl

module _ (routines : List RoutineTree) (p : Spot) (w : World) (b : Level) (world : IsWorld p.scope w) (S : Case → Type 0) (Q : Quit → Type 0) (n : ℕ)
    (evaluate : (t : Tree) → AreOurs p.scope (in_tree t) → (slots : List Slot) (ts : List Task) (s : State) (A : State → Type 0) → Leads (value p t) s A S Q
    → ((u : State) → A u → FitsValue routines p.scope w b t slots n ts u) → Fits routines p.scope w b slots n (task.Evaluate t ∷ ts) s) where
  abbrev Fit : List Slot → ℕ → List Task → State → Type 0
  Fit = Fits routines p.scope w b

  -- WRITE
  pub write_fits : (t : WriteTree) → AreOurs p.scope (in_write t) → (ts : List Task) (s : State) (A : State → Type 0) → Leads (write_argument p t) s A S Q
      → ((u : State) → A u → Fit [] n ts u) → Fit [] n (write_parts t ++ ts) s
  write_fits (WriteValue t) ours ts s A l k = evaluated_fits routines p w b S Q n evaluate t ours [] ts s A l k
  write_fits (WriteCharacter t) ours ts s A l k = evaluated_fits routines p w b S Q n evaluate t ours [] ts s A l k
  write_fits (WriteFormat tab) ours ts s A l k = optional_fits routines p w b S Q n evaluate tab ours [] ts s A l k

  -- `$TEST` is known, and set accordingly
  retest : (t : Test) (u : State) (j : Job) → Agrees t j.test → Describes p.scope w b [] u (idle j) → Describes p.scope w b [] (state.tested t u) (idle j)
  retest t u j h d = record {
    stands = record {
      test = h;
      saved = d.stands.saved;
      counts = d.stands.counts;
      defined = d.stands.defined;
      frame = d.stands.frame;
      block = d.stands.block;
      outer = d.stands.outer;
      low = d.stands.low;
      formals = d.stands.formals;
      held_sole = d.stands.held_sole;
      kept_sole = d.stands.kept_sole;
      unshared = d.stands.unshared;
      kept = d.stands.kept;
      kept_formal = d.stands.kept_formal;
      kept_out = d.stands.kept_out;
      guarded = d.stands.guarded;
      numbered = d.stands.numbered;
      running = d.stands.running;
      routine = d.stands.routine;
      ordered = d.stands.ordered;
      older = d.stands.older;
    };
    captured_sole = d.captured_sole;
    values = d.values;
  }

  module _ (ts : List Task) (A : State → Type 0) (go : (u : State) → A u → Fit [] n ts u) (skip : (c : Case) → S c → Fit [] n (skipped ts) (at_rest c)) where
    -- IF: from the first `k` conditions on, of all
    module _ (a : ActionTree) (all : List Tree) (start : State)
        (mark : (k : ℕ) (u : State) → come_to if_argument p (take k all) start u → (j : Job) → Describes p.scope w b [] u (idle j) → j.tasks ≡ task.NextArgument a k ∷ (made.in_turn if_parts a k (drop k all) ++ ts) → KeepsIn p.scope w b j) where
      ifs_from : (k : ℕ) (conditions : List Tree) → drop k all ≡ conditions → AreOurs p.scope (flat_map in_tree conditions) → (s : State) → come_to if_argument p (take k all) start s → Leads (in_turn if_argument p conditions) s A S Q
          → Fit [] n (made.in_turn if_parts a k conditions ++ ts) s
      ifs_from k [] left ours s come l = go s (leads_stay A S Q s l)
      ifs_from k (t ∷ conditions) left ours s come l =
          let B : State → Type 0 = λ u. Leads (in_turn if_argument p conditions) u A S Q in
          let first = leads_both A S Q (λ v. few p.line p.word (if_argument p t v)) (in_turn if_argument p conditions) (both (if_argument p t) (few p.line p.word) (if_argument_keeps p t) (few_keeps p.line p.word)) (turns_keep if_argument p (if_argument_keeps p) conditions) s l in
          let behind : List Task = made.in_turn if_parts a (suc k) conditions ++ ts in
          if_one routines p w b world S Q n evaluate t (ours_left p.scope (in_tree t) (flat_map in_tree conditions) ours) (task.NextArgument a (suc k) ∷ behind) s (λ u. Leads (few p.line p.word) u B S Q × Among u (turn if_argument p (alone s) t).going)
          (leads_turn routines p w b S Q n if_argument (if_argument_keeps p) t s B first)
          (λ u m.
          let on = come_further routines p w b S Q n if_argument all k t conditions start s u left come m.1 in
          let less = one_dropped routines p w b S Q n all k t conditions left in
          ended_fits routines p w b S Q n a (suc k) behind u
          (λ j d e. mark (suc k) u on j d (e ∙ ap (λ z. task.NextArgument a (suc k) ∷ (made.in_turn if_parts a (suc k) z ++ ts)) (sym less)))
          (ifs_from (suc k) conditions less (ours_right p.scope (in_tree t) (flat_map in_tree conditions) ours) u on (leads_few B S Q p.line p.word u m.0)))
          (λ c m. subst (λ z. Fit [] n z (at_rest c)) (sym (skip_ifs a (suc k) conditions ts)) (skip c m))

      pub ifs_fit : AreOurs p.scope (flat_map in_tree all) → Leads (in_turn if_argument p all) start A S Q → Fit [] n (made.in_turn if_parts a 0 all ++ ts) start
      ifs_fit ours l = ifs_from 0 all refl ours start refl l

    -- IF and ELSE without arguments
    abbrev May : Bool → State → Type 0
    May true u = A (state.tested One u)
    May false u = S (state.tested Zero u).case

    abbrev Else : Bool → State → Type 0
    Else true u = S (state.tested One u).case
    Else false u = A (at_rest (state.tested Zero u).case)

    if_ways : (t : Test) (u : State) → ((o : Outcome) → Among o (if_outcomes (known_test t) u) → Meets A S Q o) → (x : Bool) → Agrees t x → May x u
    if_ways Any u h true a = h (Goes (state.tested One u)) (inl refl)
    if_ways Any u h false a = h (Skips (state.tested Zero u).case) (inr (inl refl))
    if_ways One u h true a = h (Goes (state.tested One u)) (inl refl)
    if_ways One u h false a = differs false a refl
    if_ways Zero u h true a = differs true refl a
    if_ways Zero u h false a = h (Skips (state.tested Zero u).case) (inl refl)

    else_ways : (t : Test) (u : State) → ((o : Outcome) → Among o (map swapped (if_outcomes (known_test t) u)) → Meets A S Q o) → (x : Bool) → Agrees t x → Else x u
    else_ways Any u h true a = h (Skips (state.tested One u).case) (inl refl)
    else_ways Any u h false a = h (Goes (at_rest (state.tested Zero u).case)) (inr (inl refl))
    else_ways One u h true a = h (Skips (state.tested One u).case) (inl refl)
    else_ways One u h false a = differs false a refl
    else_ways Zero u h true a = differs true refl a
    else_ways Zero u h false a = h (Goes (at_rest (state.tested Zero u).case)) (inl refl)

    pub if_fits : (s : State) → Leads (each if_row) s A S Q → Fit [] n (task.SkipIf false ∷ ts) s
    if_fits s l j d tasks =
        plain_step routines p.scope w b [] n ts s (task.SkipIf false) refl j tasks (λ free c.
        unasked (Safe routines p.scope w b n) c _ (done (Safe routines p.scope w b n) (doing (if same_truth false j.test then skipped ts else ts) j)
        (by j.test refl (if_ways s.case.test s (leads_each A S Q if_row s l) j.test d.stands.test))))
      where
        by : (x : Bool) → j.test ≡ x → May j.test s → Safe routines p.scope w b n (doing (if same_truth false j.test then skipped ts else ts) j)
        by true e m =
            let a : A (state.tested One s) = subst (λ z. May z s) e m in
            go (state.tested One s) a (doing (if same_truth false j.test then skipped ts else ts) j) (retest One s j e d) (ap (λ z. if same_truth false z then skipped ts else ts) e)
        by false e m =
            let a : S (state.tested Zero s).case = subst (λ z. May z s) e m in
            skip (state.tested Zero s).case a (doing (if same_truth false j.test then skipped ts else ts) j) (at_rest_law p.scope w b (state.tested Zero s) (idle j) (retest Zero s j e d)) (ap (λ z. if same_truth false z then skipped ts else ts) e)

    pub else_fits : (s : State) → Leads (each else_row) s A S Q → Fit [] n (task.SkipIf true ∷ ts) s
    else_fits s l j d tasks =
        plain_step routines p.scope w b [] n ts s (task.SkipIf true) refl j tasks (λ free c.
        unasked (Safe routines p.scope w b n) c _ (done (Safe routines p.scope w b n) (doing (if same_truth true j.test then skipped ts else ts) j)
        (by j.test refl (else_ways s.case.test s (leads_each A S Q else_row s l) j.test d.stands.test))))
      where
        by : (x : Bool) → j.test ≡ x → Else j.test s → Safe routines p.scope w b n (doing (if same_truth true j.test then skipped ts else ts) j)
        by true e m =
            let a : S (state.tested One s).case = subst (λ z. Else z s) e m in
            skip (state.tested One s).case a (doing (if same_truth true j.test then skipped ts else ts) j) (at_rest_law p.scope w b (state.tested One s) (idle j) (retest One s j e d)) (ap (λ z. if same_truth true z then skipped ts else ts) e)
        by false e m =
            let a : A (at_rest (state.tested Zero s).case) = subst (λ z. Else z s) e m in
            go (at_rest (state.tested Zero s).case) a (doing (if same_truth true j.test then skipped ts else ts) j) (at_rest_law p.scope w b (state.tested Zero s) (idle j) (retest Zero s j e d)) (ap (λ z. if same_truth true z then skipped ts else ts) e)

  -- QUIT, and QUIT with a value
  at_rest_value : (u : State) (j : Job) → Describes p.scope w b (Bare None ∷ []) u j → Describes p.scope w b (Bare None ∷ []) (at_rest u.case) j
  at_rest_value u j d = record {
    stands = d.stands;
    captured_sole = λ x h. differs (some_local x []) h (none_local x);
    values = of j.values d.values;
  }
    where
      of : (values : List (List ℕ)) → Fills (now j) (Bare None ∷ []) (reverse u.captured) values w.values → Fills (now j) (Bare None ∷ []) [] values w.values
      of [] f = absurd f
      of (v ∷ more) f = (tt, nothing (now j) (reverse u.captured) more w.values f.1)

  module _ (ts : List Task) (A : State → Type 0) where
    pub quit_fits : ((q : Quit) → Q q → Fit [] n (quit ts) (at_rest q.case)) → (s : State) → Leads (each (quit_row p)) s A S Q → Fit [] n (task.QuitHere ∷ ts) s
    quit_fits stop s l j d tasks =
        let q : Quit = record { column = p.word; case = s.case } in
        plain_step routines p.scope w b [] n ts s task.QuitHere refl j tasks (λ free c.
        unasked (Safe routines p.scope w b n) c _ (done (Safe routines p.scope w b n) (doing (quit ts) j)
        (stop q (leads_each A S Q (quit_row p) s l (Quits p.word s.case) (inl refl)) (doing (quit ts) j) (at_rest_law p.scope w b s (idle j) d) refl)))

    pub answer_fits : ((q : Quit) → Q q → Gives routines w b p.scope n (to_end ts) (at_rest q.case)) → (t : Tree) → AreOurs p.scope (in_tree t) → (s : State)
        → Leads (λ v. each (quit_row p) (value p t v)) s A S Q → Fit [] n (task.Evaluate t ∷ task.QuitWithValue ∷ ts) s
    answer_fits give t ours s l =
        evaluate t ours [] (task.QuitWithValue ∷ ts) s (λ u. Leads (each (quit_row p)) u A S Q)
        (leads_both A S Q (value p t) (each (quit_row p)) (value_keeps p t) (each_keeps (quit_row p)) s l)
        (λ u m j v more d e knows tasks.
        let q : Quit = record { column = p.word; case = u.case } in
        plain_step routines p.scope w b (Bare None ∷ []) n ts u task.QuitWithValue refl j tasks (λ free c.
        unasked (Safe routines p.scope w b n) c _ (done (Safe routines p.scope w b n) (answered j (to_end ts))
        (give q (leads_each A S Q (quit_row p) u m (Quits p.word u.case) (inl refl)) j v more (at_rest_value u (idle j) d) e))))
