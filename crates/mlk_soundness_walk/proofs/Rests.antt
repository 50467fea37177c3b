-- Commands one after another, and the rounds of FOR: from single commands and the values of expressions.
use Rattle.std.proofs.Common.{◌≡◌, ◌≤◌, ℕ, zero, suc, ◌+◌, ◌-◌, Bool, true, false, List, [], ◌∷◌, ◌++◌, Option, Some, None, refl, subst, arith}
use Rattle.std.proofs.lemmas.Bool.{false≢true}
use Rattle.mlk_names.specs.Lists.{Among}
use Rattle.mlk_syntax.specs.ExprTrees.{Tree}
use Rattle.mlk_syntax.specs.Trees.{RoutineTree, CommandTree, ControlTree, Runs, CommandTrees, finished, then_command, then_for, LineTrees}
use Rattle.mlk_program.specs.Calls.{in_tree, in_commands}
use Rattle.mlk_cert_parts.specs.declared.case.Case.{Case}
use Rattle.mlk_machine_jobs.specs.Choices.{doing}
use Rattle.mlk_machine_jobs.specs.Lines.{skipped, quit, to_end, next_command, command_parts, for_parts}
use Rattle.mlk_machine_jobs.specs.Tasks as task
use Rattle.mlk_machine_jobs.specs.Tasks.{Task, Job, RunCommands, Forever, LineTree}
use Rattle.mlk_walk_state.specs.States.{at_rest}
use Rattle.mlk_walk_state.specs.declared.state.State.{State}
use Rattle.mlk_walk_exprs.specs.Expressions.{value}
use Rattle.mlk_walk_exprs.specs.Spots.{Spot}
use Rattle.mlk_walk_exprs.specs.declared.walk.Quit.{Quit}
use Rattle.mlk_walk_exprs.specs.declared.walk.Walk.{Walk}
use Rattle.mlk_walk_lines.specs.Loops.{at_word, commands, one_command, ended_in, quit_in}
use Rattle.mlk_walk_laws.specs.Fewer.{ListsEachOnce}
use Rattle.mlk_walk_laws.proofs.Rounds.{one_keeps, commands_keep}
use Rattle.mlk_soundness_machine.specs.Described.{World, Level, Slot, IsWorld, idle}
use Rattle.mlk_walk_state.specs.Scope.{Scope}
use Rattle.mlk_soundness_machine.proofs.Steps.{done, unasked}
use Rattle.mlk_soundness_machine.proofs.Going.{step, less}
use Rattle.mlk_soundness_machine.proofs.Facts.{commands_facts}
use Rattle.mlk_soundness_machine.proofs.Values.{Safe, Fits, FitsValue}
use Rattle.mlk_soundness_machine.specs.Places.{alone}
use Rattle.mlk_soundness_walk.specs.Commands.{AreOnLine, Gives, Jumps, KeepsBetween}
use Rattle.mlk_soundness_walk.specs.Ours.{IsOf, AreOurs, AreOf}
use Rattle.mlk_soundness_walk.proofs.Alone.{Leads, leads_both, leads_stay, leads_there}
use Rattle.mlk_soundness_walk.proofs.Places.{Opens, opens_rest, opens_round, comes_to, begins_round}
use Rattle.mlk_soundness_walk.proofs.Lines.{CommandFits, RestFits, rests, between}
use Rattle.mlk_soundness_walk.proofs.Loops.{cs, inner, round_leads, after_quits, for_fits}
use Rattle.mlk_soundness_walk.proofs.Ours.{first_of, rest_of, ours_right}
use Rattle.mlk_soundness_walk.proofs.Parameters.{Some_case, Some_quit}
use Rattle.mlk_soundness_walk.proofs.Rounds.{enters, again, forever_fits}

-- what is safe for a number of steps is safe for fewer
module _ (routines : List RoutineTree) (sc : Scope) (w : World) (b : Level) (j : Job) where
  less_by : (d n m : ℕ) → m ≡ d + n → Safe routines sc w b m j → Safe routines sc w b n j
  less_by zero n m e h = let z : m ≡ n = omega (arith, e) in subst (λ k. Safe routines sc w b k j) z h
  less_by (suc d) n m e h =
      let z : m ≡ suc (d + n) = omega (arith, e) in
      less_by d n (d + n) refl (less routines sc w b (d + n) j (subst (λ k. Safe routines sc w b k j) z h))

  pub at_most : (n m : ℕ) → n ≤ m → Safe routines sc w b m j → Safe routines sc w b n j
  at_most n m le h = let e : m ≡ (m - n) + n = omega (arith, le) in less_by (m - n) n m e h

module _ (routines : List RoutineTree) (p : Spot) (w : World) (b : Level) (world : IsWorld p.scope w) (here : LineTree) (n : ℕ) (once : ListsEachOnce p.scope)
    (evaluate : (word m : ℕ) → m ≤ n → (t : Tree) → AreOurs p.scope (in_tree t) → (slots : List Slot) (us : List Task) (s : State) (A : State → Type 0) → Leads (value (at_word p word) t) s A Some_case Some_quit
    → ((u : State) → A u → FitsValue routines p.scope w b t slots m us u) → Fits routines p.scope w b slots m (task.Evaluate t ∷ us) s)
    (one : (m : ℕ) → m ≤ n → (may : Bool) (c : CommandTree) → IsOf p.scope may c → (ts : List Task) (s : State) → KeepsBetween routines w b p c ts s → (A : State → Type 0) (S : Case → Type 0) (Q : Quit → Type 0) → Leads (λ v. one_command p v c) s A S Q
    → ((u : State) → A u → Fits routines p.scope w b [] m ts u) → ((d : Case) → S d → Fits routines p.scope w b [] m (skipped ts) (at_rest d))
    → ((q : Quit) → Q q → Fits routines p.scope w b [] m (quit ts) (at_rest q.case)) → (may ≡ true → (q : Quit) → Q q → Gives routines w b p.scope m (to_end ts) (at_rest q.case)) → (may ≡ true → Jumps routines w b p.scope m (to_end ts))
    → Fits routines p.scope w b [] m (command_parts here.1 c ++ ts) s) where
  abbrev At : ℕ → List Task → State → Type 0
  At m ts s = Fits routines p.scope w b [] m ts s

  opened : (m : ℕ) (cs : CommandTrees) (ts : List Task) (s : State) → Opens w p here cs ts s → At m (next_command cs here ts) s → At m (RunCommands cs here ∷ ts) s
  opened m cs ts s o k j d e =
      step routines p.scope w b m j (RunCommands cs here) ts e refl (commands_facts p.scope w b j cs here ts e s.case (comes_to w p here cs ts s o (rests p.scope w b s (idle j) d)) (begins_round w p here cs ts s o) d.stands) (λ free c.
      unasked (Safe routines p.scope w b m) c _ (done (Safe routines p.scope w b m) (doing (next_command cs here ts) j) (k (doing (next_command cs here ts) j) d refl)))

  -- a FOR, from the rest of its line
  loop_fits : (column index : ℕ) (control : Option ControlTree) (rest : CommandTrees) → ((k : ℕ) → k ≤ n → RestFits routines w b p here rest k) → (m : ℕ) → m ≤ n
      → (may : Bool) → AreOf p.scope may (then_for column index control rest) → (ts : List Task) → AreOnLine w p here (then_for column index control rest) ts → (s : State) (A : State → Type 0) (S : Case → Type 0) (Q : Quit → Type 0)
      → Leads (commands p (then_for column index control rest)) s A S Q → ((u : State) → A u → At m ts u) → At m (for_parts control rest here ∷ ts) s
  loop_fits column index None rest inside m le may of ts on s A S Q l go =
      let found : Walk = inner p column index None rest once s A S Q l in
      let its : AreOf p.scope false rest = record { at_end = of.at_end; reads = of.reads; ours = ours_right p.scope [] (in_commands rest) of.ours } in
      forever_fits routines w b p rest here ts m (cs p column index None rest once s A S Q l) (ended_in found) (quit_in found)
      (λ k lt c i first second third.
      inside k (omega (arith, lt, le)) false its (Forever rest here ∷ ts) (at_rest c) (λ u. Among u (ended_in found)) (λ d. Among (at_rest d) (ended_in found)) (λ q. Among (at_rest q.case) (quit_in found))
      (opens_round w p here column index None rest ts on (Forever rest here) c refl i (round_leads p column index None rest once s A S Q l c i).clean) (round_leads p column index None rest once s A S Q l c i) first second third (λ y. absurd (false≢true y)) (λ y. absurd (false≢true y)))
      (again p column index rest once s A S Q l) m (omega arith) (λ u i. go u (after_quits p column index None rest once s A S Q l u i)) s (enters p column index rest once s A S Q l)
  loop_fits column index (Some (Runs c name qs)) rest inside m le may of ts on s A S Q l go =
      for_fits routines p w b world here n once evaluate column index c name qs rest may of ts on inside m le s A S Q l
      (λ k lt u a j d e. at_most routines p.scope w b j k m lt (go u a j d e))

  pub rest_fits : (cs : CommandTrees) (m : ℕ) → m ≤ n → RestFits routines w b p here cs m
  rest_fits finished m le may of ts s A S Q o l go skip stop give jump = opened m finished ts s o (go s (leads_stay A S Q s l))
  rest_fits (then_command c rest) m le may of ts s A S Q o l go skip stop give jump = λ j d e.
      opened m (then_command c rest) ts s o
      (one m le may c (first_of p.scope may c rest of) (RunCommands rest here ∷ ts) s (between routines w b p here c rest ts s o (rests p.scope w b s (idle j) d)) (λ u. Leads (commands p rest) u A S Q × Among u (one_command p (alone s) c).going) S Q
      (leads_there (λ u. Leads (commands p rest) u A S Q) S Q (λ v. one_command p v c) s (leads_both A S Q (λ v. one_command p v c) (commands p rest) (one_keeps p c) (commands_keep p once rest) s l))
      (λ u h. rest_fits rest m le may (rest_of p.scope may c rest of) ts u A S Q (opens_rest w p here once c rest ts s u o h.1) h.0 go skip stop give jump) skip stop give jump) j d e
  rest_fits (then_for column index control rest) m le may of ts s A S Q o l go skip stop give jump =
      opened m (then_for column index control rest) ts s o (loop_fits column index control rest (λ k lt. rest_fits rest k lt) m le may of ts o.place s A S Q l go)

  -- all commands of a line, from single ones
  pub command_fits : (m : ℕ) → m ≤ n → CommandFits routines w b p here m
  command_fits m le = record {
    one = one m le;
    loop = λ may column index control rest of ts on s A S Q l go skip stop. loop_fits column index control rest (λ k lt. rest_fits rest k lt) m le may of ts on s A S Q l go;
  }
