-- KILL of locals, and the end of a job.
use Rattle.std.proofs.Common.{◌≡◌, ℕ, zero, suc, ◌+◌, ◌<◌, true, false, List, [], ◌∷◌, Some, None, Ok, Err, refl, sym, ap, ◌∙◌, subst, arith, ⊎_elim, inl, inr}
use Rattle.std.proofs.lemmas.Bool.{cases_Bool}
use Rattle.mlk_names.specs.Lists.{Among}
use Rattle.mlk_names.specs.declared.lock_name.LockName.{LockName}
use Rattle.mlk_cert_parts.specs.declared.case.Case.{Case}
use Rattle.mlk_cert_parts.specs.declared.names.NameSet.{NameSet}
use Rattle.mlk_syntax.specs.Trees.{RoutineTree}
use Rattle.mlk_machine_locks.specs.Counts.{count_of}
use Rattle.mlk_machine_locks.specs.Waiting.{awaited}
use Rattle.mlk_machine_jobs.specs.Bindings.{Names, covers, is_named, killed}
use Rattle.mlk_machine_jobs.specs.Advance.{advance}
use Rattle.mlk_machine_jobs.specs.Choices.{doing}
use Rattle.mlk_machine_jobs.specs.Runs.{next_claim}
use Rattle.mlk_machine_jobs.specs.Seen.{ready_in}
use Rattle.mlk_machine_jobs.specs.Tasks as task
use Rattle.mlk_machine_jobs.specs.Tasks.{Task, Job}
use Rattle.mlk_machine_laws.proofs.Killing.{named_by, kept_other}
use Rattle.mlk_machine_laws.specs.Sharing.{is_lent}
use Rattle.mlk_walk_state.specs.Cases.{holds_some}
use Rattle.mlk_walk_state.specs.Names.{have}
use Rattle.mlk_walk_state.specs.Scope.{Scope}
use Rattle.mlk_walk_state.specs.declared.state.State.{State}
use Rattle.mlk_calls.specs.Changes.{changed_state}
use Rattle.mlk_soundness_machine.specs.Frames.{times_waiting}
use Rattle.mlk_soundness_machine.specs.Reads.{now, times}
use Rattle.mlk_soundness_machine.specs.Described.{World, Level, Slot, IsWorld, idle, bare, Stands}
use Rattle.mlk_soundness_machine.specs.Safe.{SafeFor, KeepsTo}
use Rattle.mlk_soundness_machine.proofs.Facts.{plain_facts}
use Rattle.mlk_soundness_machine.proofs.Going.{Next, by_step}
use Rattle.mlk_soundness_machine.specs.Facts.{Facts}
use Rattle.mlk_soundness_machine.proofs.Listing.{no_start, no_line, no_round, no_command, no_argument, no_start_of_job}
use Rattle.mlk_soundness_machine.proofs.Calling.{none_held}
use Rattle.mlk_soundness_machine.proofs.Changes.{Allowed}
use Rattle.mlk_soundness_machine.proofs.Steps.{done, unasked}
use Rattle.mlk_soundness_machine.proofs.Values.{Safe, Fits, plain_step}
use Rattle.mlk_soundness_machine.proofs.Worlds.{change_law, guarded_map, waiting_kept}

-- names whose values KILL removes
pub kill_fits : (routines : List RoutineTree) (sc : Scope) (w : World) (b : Level) → IsWorld sc w → (slots : List Slot) (n : ℕ) (ts : List Task) (s : State) (names : Names) (set : NameSet)
    → ((x : List ℕ) → covers names x ≡ have (set ∷ []) x) → Allowed sc (set ∷ []) s
    → Fits routines sc w b slots n ts (changed_state (set ∷ []) s) → Fits routines sc w b slots n (task.KillNames names ∷ ts) s
kill_fits routines sc w b world slots n ts s names set same h k j d tasks =
    let i : Job = doing ts (record j { cells = killed j.bindings names j.cells }) in
    plain_step routines sc w b slots n ts s (task.KillNames names) refl j tasks (λ free c.
    unasked (Safe routines sc w b n) c _ (done (Safe routines sc w b n) i
    (k i
    (change_law sc w b slots s (idle j) d world (set ∷ []) (killed j.bindings names j.cells)
    (λ e. ⊎_elim
    (λ (u : is_named j.bindings names e ≡ true). let r = named_by j.bindings names e u in inr (r.0, sym (same r.0) ∙ r.1, r.2))
    (λ (u : is_named j.bindings names e ≡ false). inl (kept_other j.bindings names j.cells e u))
    (cases_Bool (is_named j.bindings names e)))
    h.unheld h.may)
    refl)))

-- nothing is held if no term is, and waiting frames hold nothing
module _ (routines : List RoutineTree) (sc : Scope) (w : World) (b : Level) (world : IsWorld sc w) where
  nothing_held : (c : Case) (j : Job) → Stands sc w b c (bare j) → holds_some c.held ≡ false → sc.summary.drops ≡ true → (m : LockName) → count_of j.held m ≡ 0
  nothing_held c j d none drops m =
      let saved : times_waiting j.cells j.number w.waiting m ≡ times_waiting w.saved w.number w.waiting m =
      waiting_kept w.saved j.cells j.number w.waiting world.rests (guarded_map (λ e. (j.cells e ≡ w.saved e) × (is_lent j.bindings e ≡ false)) (λ e. j.cells e ≡ w.saved e) (λ e g. g.0) w.waiting d.guarded) m
      ∙ ap (λ z. times_waiting w.saved z w.waiting m) d.numbered in
      let low : times_waiting j.cells j.number w.waiting m ≡ 0 = saved ∙ world.drops drops m in
      let own : times (now j) c.held m ≡ 0 = ap (λ z. times (now j) z m) (none_held c.held none) in
      let k : count_of j.held m ≡ times (now j) c.held m + times_waiting j.cells j.number w.waiting m = d.counts m in
      omega (arith, k, own, low)

  -- a job that has ended and holds nothing does nothing more
  ended : (j : Job) → j.tasks ≡ [] → ((m : LockName) → count_of j.held m ≡ 0) → Facts sc.rules j
  ended j e none = record {
    covered = λ u r. let z : None ≡ Some u = sym (ap ready_in e) ∙ r in cc;
    in_order = λ m i. absurd (subst (λ o. Among m (awaited o)) (ap next_claim e) i);
    ends = λ over m h. (let z = none m in let y : 0 < count_of j.held m = h in absurd (omega (arith, z, y)));
  }

  ended_facts : (begun : List Job) (j : Job) → j.tasks ≡ [] → ((m : LockName) → count_of j.held m ≡ 0) → KeepsTo sc begun j
  ended_facts begun j e none = record {
    facts = ended j e none;
    starts = no_start sc.routines sc.blocks begun j [] e refl;
    lines = no_line sc.routines sc.blocks begun j [] e refl;
    rounds = no_round sc.routines sc.blocks begun j [] e refl;
    inside = no_command sc.routines sc.rules (sc.blocks, sc.declared_entries) begun j [] e refl;
    between = no_argument sc.routines sc.rules (sc.blocks, sc.declared_entries) begun j [] e refl;
    jobs = no_start_of_job sc.routines sc.declared_entries j [] e refl;
  }

  pub ended_safe : (n : ℕ) (begun : List Job) (j : Job) → j.tasks ≡ [] → ((m : LockName) → count_of j.held m ≡ 0) → SafeFor routines (KeepsTo sc) n begun j
  ended_safe zero begun j e none = ended_facts begun j e none
  ended_safe (suc n) begun j e none = (ended_facts begun j e none, λ free c i r. let z : Err _ ≡ Ok i = subst (λ ts. advance routines free c j ts ≡ Ok i) e r in cc)

  -- HALT
  pub halt_fits : (slots : List Slot) (n : ℕ) (ts : List Task) (s : State) → holds_some s.case.held ≡ false → sc.summary.drops ≡ true → Fits routines sc w b slots n (task.HaltJob ∷ ts) s
  halt_fits slots n ts s none drops j d tasks =
      by_step routines sc w b n j (task.HaltJob ∷ ts) tasks (plain_facts sc w b j task.HaltJob ts tasks refl) (λ m same free c.
      unasked (Next routines sc w b (task.HaltJob ∷ ts) m) c _ (done (Next routines sc w b (task.HaltJob ∷ ts) m) (doing [] j) (λ k. ended_safe m _ (doing [] j) refl (nothing_held s.case j d.stands none drops))))
