-- FOR with parameters, within the commands of a line.
use Rattle.std.proofs.Common.{◌≡◌, ◌≤◌, ℕ, Bool, true, false, List, [], ◌∷◌, map, Option, Some, refl, sym, ap, ◌∙◌, subst}
use Rattle.std.proofs.lemmas.Bool.{false≢true}
use Rattle.mlk_names.specs.Lists.{Among}
use Rattle.mlk_syntax.specs.ExprTrees.{Tree}
use Rattle.mlk_syntax.specs.Trees.{RoutineTree, CommandTrees, then_for, ControlTree, Runs, ParameterTree, LineTrees}
use Rattle.mlk_cert_parts.specs.declared.case.Case.{Case}
use Rattle.mlk_machine_jobs.specs.Tasks as task
use Rattle.mlk_machine_jobs.specs.Tasks.{Task, LineTree}
use Rattle.mlk_machine_jobs.specs.Lines.{is_round, skipped, quit, quit_from, for_parts}
use Rattle.mlk_walk_state.specs.declared.state.State.{State}
use Rattle.mlk_walk_state.specs.States.{at_rest}
use Rattle.mlk_walk_state.specs.Scope.{listed}
use Rattle.mlk_walk_exprs.specs.declared.walk.Walk.{Walk}
use Rattle.mlk_walk_exprs.specs.declared.walk.Quit.{Quit}
use Rattle.mlk_walk_exprs.specs.Walks.{few, begin}
use Rattle.mlk_walk_exprs.specs.Spots.{Spot}
use Rattle.mlk_walk_exprs.specs.Expressions.{value}
use Rattle.mlk_walk_lines.specs.Loops.{controlled, and_faults, ended_in, quit_in, and_states, at_word, commands}
use Rattle.mlk_walk_laws.specs.Fewer.{StatesDiffer, IsClean, ListsEachOnce}
use Rattle.mlk_walk_laws.proofs.Lists.{in_map, all_new, all_old, all_distinct}
use Rattle.mlk_walk_laws.proofs.Transfers.{Tells}
use Rattle.mlk_walk_laws.proofs.Counts.{few_clean, few_same}
use Rattle.mlk_walk_laws.proofs.Rounds.{commands_keep, each_alone, controlled_keeps, states_clean, states_same, loop_open, loop_same}
use Rattle.mlk_soundness_machine.specs.Described.{World, Level, Slot, IsWorld}
use Rattle.mlk_soundness_machine.proofs.Values.{Fits, FitsValue}
use Rattle.std.specs.Prelude.{flat_map}
use Rattle.mlk_program.specs.Calls.{in_tree, in_parameter, in_commands}
use Rattle.mlk_soundness_walk.specs.Ours.{AreOurs, AreOf}
use Rattle.mlk_soundness_walk.proofs.Ours.{ours_left, ours_right}
use Rattle.mlk_soundness_machine.specs.Places.{alone}
use Rattle.mlk_soundness_walk.specs.Commands.{AreOnLine}
use Rattle.mlk_soundness_walk.proofs.Alone.{Leads}
use Rattle.mlk_soundness_walk.proofs.Lines.{RestFits}
use Rattle.mlk_soundness_walk.proofs.Places.{opens_round}
use Rattle.mlk_soundness_walk.proofs.Parameters.{Some_case, Some_quit, parameters_fit}

module _ (p : Spot) (column index : ℕ) (control : Option ControlTree) (rest : CommandTrees) (once : ListsEachOnce p.scope) (s : State) (A : State → Type 0) (S : Case → Type 0) (Q : Quit → Type 0)
    (l : Leads (commands p (then_for column index control rest)) s A S Q) where
  abbrev pub cs : List Case
  cs = listed p.scope p.line index

  abbrev pub inner : Walk
  inner = commands p rest (begin (listed p.scope p.line index))

  distinct : StatesDiffer inner.going
  distinct = (commands_keep p once rest).apart (begin cs) (once p.line index)

  tells : Tells inner
  tells = (commands_keep p once rest).tells (begin cs) (λ e h. false≢true e)

  pub ended_apart : StatesDiffer (ended_in inner)
  ended_apart = all_distinct (map at_rest inner.skips) inner.going distinct

  abbrev run : Walk → Walk
  run w = controlled (at_word p column) control cs (ended_in inner) (and_faults inner.faults w)

  opened : (false ≡ false) × (inner.over ≡ false) × IsClean (few p.line column (and_states (quit_in inner) (run (alone s))))
  opened = loop_open (at_word p column) control cs inner distinct tells (alone s) l.clean

  counted : IsClean (and_states (quit_in inner) (run (alone s)))
  counted = (few_clean p.line column (and_states (quit_in inner) (run (alone s))) opened.2).1

  controls : IsClean (run (alone s))
  controls = states_clean (quit_in inner) (run (alone s)) counted

  clean : IsClean inner
  clean = record { faultless = ((controlled_keeps (at_word p column) control cs (ended_in inner) ended_apart).back (and_faults inner.faults (alone s)) controls).faultless; goes_on = opened.1 }

  -- all outcomes of the loop
  whole : commands p (then_for column index control rest) (alone s) ≡ and_states (quit_in inner) (run (alone s))
  whole = loop_same (at_word p column) control cs inner distinct tells (alone s) refl opened.1
      ∙ few_same p.line column (and_states (quit_in inner) (run (alone s))) (few_clean p.line column (and_states (quit_in inner) (run (alone s))) opened.2).0

  pub after_quits : (u : State) → Among u (quit_in inner) → A u
  after_quits u i = l.going u (subst (λ (w : Walk). Among u w.going) (sym (whole ∙ states_same (quit_in inner) (run (alone s)) controls.goes_on)) (all_new u (quit_in inner) (run (alone s)).going i))

  -- the outcomes of the control
  unfaulted : and_faults inner.faults (alone s) ≡ alone s
  unfaulted = ap (λ z. record (alone s) { faults = z }) clean.faultless

  pub control_leads : Leads (controlled (at_word p column) control cs (ended_in inner)) s A Some_case Some_quit
  control_leads = record {
    clean = subst (λ w. IsClean (controlled (at_word p column) control cs (ended_in inner) w)) unfaulted controls;
    going = λ u i.
        let j : Among u (run (alone s)).going = subst (λ w. Among u (controlled (at_word p column) control cs (ended_in inner) w).going) (sym unfaulted) i in
        l.going u (subst (λ (w : Walk). Among u w.going) (sym (whole ∙ states_same (quit_in inner) (run (alone s)) controls.goes_on)) (all_old u (quit_in inner) (run (alone s)).going j));
    skips = λ c i. tt;
    quits = λ q i. tt;
  }

  pub round_leads : (c : Case) → Among c cs → Leads (commands p rest) (at_rest c) (λ u. Among u (ended_in inner)) (λ d. Among (at_rest d) (ended_in inner)) (λ q. Among (at_rest q.case) (quit_in inner))
  round_leads c i =
      let q = each_alone p rest once cs c i clean in
      record {
        clean = q.clean;
        going = λ u r. all_old u (map at_rest inner.skips) inner.going (q.going u r);
        skips = λ d r. all_new (at_rest d) (map at_rest inner.skips) inner.going (in_map at_rest d inner.skips (q.skips d r));
        quits = λ x r. in_map (λ (z : Quit). at_rest z.case) x inner.quits (q.quits x r);
      }

-- a round is not a line's end
round_skips : (K : Task) (ts : List Task) → is_round K ≡ true → skipped (K ∷ ts) ≡ K ∷ ts
round_skips K ts h = rw h refl

round_quits : (K : Task) (ts : List Task) → is_round K ≡ true → quit (K ∷ ts) ≡ ts
round_quits K ts h = ap quit_from (round_skips K ts h) ∙ (rw h refl)

module _ (routines : List RoutineTree) (p : Spot) (w : World) (b : Level) (world : IsWorld p.scope w) (here : LineTree) (n : ℕ) (once : ListsEachOnce p.scope)
    (evaluate : (word m : ℕ) → m ≤ n → (t : Tree) → AreOurs p.scope (in_tree t) → (slots : List Slot) (us : List Task) (s : State) (A : State → Type 0) → Leads (value (at_word p word) t) s A Some_case Some_quit
    → ((u : State) → A u → FitsValue routines p.scope w b t slots m us u) → Fits routines p.scope w b slots m (task.Evaluate t ∷ us) s) where
  -- FOR with parameters
  pub for_fits : (column index c : ℕ) (name : List ℕ) (qs : List ParameterTree) (rest : CommandTrees) (may : Bool) → AreOf p.scope may (then_for column index (Some (Runs c name qs)) rest) → (ts : List Task) → AreOnLine w p here (then_for column index (Some (Runs c name qs)) rest) ts → ((k : ℕ) → k ≤ n → RestFits routines w b p here rest k) → (m : ℕ) → m ≤ n → (s : State) (A : State → Type 0) (S : Case → Type 0) (Q : Quit → Type 0)
      → Leads (commands p (then_for column index (Some (Runs c name qs)) rest)) s A S Q
      → ((k : ℕ) → k ≤ m → (u : State) → A u → Fits routines p.scope w b [] k ts u)
      → Fits routines p.scope w b [] m (for_parts (Some (Runs c name qs)) rest here ∷ ts) s
  for_fits column index c name qs rest may of ts on inside m le s A S Q l go =
      let control = Some (Runs c name qs) in
      let ends = ended_in (inner p column index control rest once s A S Q l) in
      let quits = quit_in (inner p column index control rest once s A S Q l) in
      parameters_fit routines (at_word p column) w b world c name (cs p column index control rest once s A S Q l) ends (ended_apart p column index control rest once s A S Q l) rest here ts n (evaluate column) quits
      (λ k lt d i K is runs again out.
      inside k lt false (record { at_end = of.at_end; reads = of.reads; ours = ours_right p.scope (flat_map in_parameter qs) (in_commands rest) of.ours }) (K ∷ ts) (at_rest d) (λ u. Among u ends) (λ x. Among (at_rest x) ends) (λ q. Among (at_rest q.case) quits)
      (opens_round w p here column index control rest ts on K d runs i (round_leads p column index control rest once s A S Q l d i).clean) (round_leads p column index control rest once s A S Q l d i) again
      (λ x h. subst (λ z. Fits routines p.scope w b [] k z (at_rest x)) (sym (round_skips K ts is)) (again (at_rest x) h))
      (λ q h. subst (λ z. Fits routines p.scope w b [] k z (at_rest q.case)) (sym (round_quits K ts is)) (out (at_rest q.case) h))
      (λ y. absurd (false≢true y)) (λ y. absurd (false≢true y)))
      qs (ours_left p.scope (flat_map in_parameter qs) (in_commands rest) of.ours) m le s A (control_leads p column index control rest once s A S Q l) go (λ k lt u i. go k lt u (after_quits p column index control rest once s A S Q l u i))
