-- What a job holds after names were claimed or released, or all were; and that its next claim is in order.
use Rattle.std.proofs.Common.{◌≡◌, ℕ, ◌+◌, Bool, true, false, List, [], ◌∷◌, Option, Some, None, refl, sym, ap, ◌∙◌, subst, arith, ⊎_elim}
use Rattle.std.specs.Prelude.{◌⊎◌, if◌then◌else◌}
use Rattle.mlk_text.specs.declared.code.Code.{Code}
use Rattle.mlk_names.specs.Lists.{Among}
use Rattle.mlk_names.specs.declared.lock_name.LockName.{LockName}
use Rattle.mlk_names.specs.declared.term.LockTerm.{LockTerm}
use Rattle.mlk_names.specs.Symbols.{Assignment}
use Rattle.mlk_rules.specs.Ranks.{FamiliesApart}
use Rattle.mlk_rules.specs.Laws.{RankedOnce}
use Rattle.mlk_machine_locks.specs.Counts.{all_raised, all_lowered}
use Rattle.mlk_machine_locks.specs.Waiting.{awaited}
use Rattle.mlk_machine_jobs.specs.Bindings.{Bindings, look}
use Rattle.mlk_machine_jobs.specs.Locking.{held_more}
use Rattle.mlk_machine_jobs.specs.Runs.{next_claim, seen}
use Rattle.mlk_machine_jobs.specs.Seen.{ready_in}
use Rattle.mlk_machine_jobs.specs.Tasks as task
use Rattle.mlk_machine_jobs.specs.Tasks.{Task, Job}
use Rattle.mlk_walk_state.specs.declared.state.State.{State}
use Rattle.mlk_walk_state.specs.Scope.{Scope}
use Rattle.mlk_walk_state.specs.States.{holding}
use Rattle.mlk_walk_state.specs.Terms.{add_terms, all_taken}
use Rattle.mlk_calls.specs.Claims.{or_here, first_refused, claim_fault, held_too}
use Rattle.mlk_machine_laws.specs.Order.{IsOwn, IsAboveAll}
use Rattle.mlk_machine_laws.specs.Sharing.{is_lent}
use Rattle.mlk_soundness_machine.specs.Described.{World, Level, Slot, IsWorld, idle, Describes}
use Rattle.mlk_soundness_machine.specs.Frames.{times_waiting}
use Rattle.mlk_soundness_machine.specs.Reads.{now, mentions}
use Rattle.mlk_soundness_machine.specs.Safe.{KeepsIn}
use Rattle.mlk_soundness_machine.specs.Facts.{Facts}
use Rattle.mlk_soundness_machine.proofs.Listing.{no_start, no_line, no_round, no_command, no_argument, no_start_of_job}
use Rattle.mlk_rules.specs.declared.rules.RuleLists.{RuleLists}
use Rattle.mlk_soundness_machine.proofs.Claims.{claims_in_order}
use Rattle.mlk_soundness_machine.proofs.News.{hold_stands}
use Rattle.mlk_soundness_machine.proofs.Reading.{differs}
use Rattle.mlk_soundness_machine.proofs.Terms.{times_put_all, mentions_put_all, all_left, mentions_none}
use Rattle.mlk_soundness_machine.proofs.Worlds.{guarded_map, waiting_kept}
use Rattle.mlk_soundness_walk.proofs.LockNames.{NameThem, names_defined, raised_times, lowered_times}

-- terms denote these names, and what they mention is nobody else's
pub record AreNamed (a : Assignment) (bindings : Bindings) (terms : List LockTerm) (names : List LockName) : Type 0 where
  pub named : NameThem a terms names
  pub sole : (x : List ℕ) → mentions x terms ≡ true → is_lent bindings (look bindings x) ≡ false

module _ (sc : Scope) (w : World) (b : Level) (slots : List Slot) (s : State) (j : Job) (d : Describes sc w b slots s (idle j)) where
  -- a claim that is granted
  pub held_law : (terms : List LockTerm) (names : List LockName) → AreNamed (now j) j.bindings terms names → Describes sc w b slots (held_too terms s) (idle (held_more names j))
  held_law terms names r = record {
    stands =
        hold_stands sc w b s.case j d.stands (add_terms terms s.case.held) (all_raised names j.held)
        (λ m. let a = times_put_all (now j) terms s.case.held m in let e = raised_times (now j) terms names r.named j.held m in let c = d.stands.counts m in omega (arith, a, e, c))
        (λ x h. ⊎_elim (λ u. names_defined (now j) x terms names r.named u) (λ u. d.stands.defined x u) (mentions_put_all x terms s.case.held h))
        (λ x h. ⊎_elim (λ u. r.sole x u) (λ u. d.stands.held_sole x u) (mentions_put_all x terms s.case.held h));
    captured_sole = d.captured_sole;
    values = d.values;
  }

  -- released names
  pub less_law : (terms : List LockTerm) (names : List LockName) → NameThem (now j) terms names → (left : List LockTerm) → all_taken terms s.case.held ≡ Some left
      → Describes sc w b slots (holding left s) (idle (record j { held = all_lowered names j.held }))
  less_law terms names named left e =
      let l = all_left (now j) terms s.case.held left e in
      record {
        stands =
            hold_stands sc w b s.case j d.stands left (all_lowered names j.held)
            (lowered_times (now j) terms names named s.case.held left e (times_waiting j.cells j.number w.waiting) j.held d.stands.counts)
            (λ x h. d.stands.defined x (l.rest_mentions x h))
            (λ x h. d.stands.held_sole x (l.rest_mentions x h));
        captured_sole = d.captured_sole;
        values = d.values;
      }

  -- all are released, if waiting frames hold nothing
  pub none_law : IsWorld sc w → sc.summary.drops ≡ true → Describes sc w b slots (holding [] s) (idle (record j { held = [] }))
  none_law world drops = record {
    stands =
        hold_stands sc w b s.case j d.stands [] []
        (λ m. let z = waiting_none m in omega (arith, z))
        (λ x h. differs (mentions x []) h (mentions_none x))
        (λ x h. differs (mentions x []) h (mentions_none x));
    captured_sole = d.captured_sole;
    values = d.values;
  }
    where
      waiting_none : (m : LockName) → times_waiting j.cells j.number w.waiting m ≡ 0
      waiting_none m =
          waiting_kept w.saved j.cells j.number w.waiting world.rests
          (guarded_map (λ e. (j.cells e ≡ w.saved e) × (is_lent j.bindings e ≡ false)) (λ e. j.cells e ≡ w.saved e) (λ e g. g.0) w.waiting d.stands.guarded) m
          ∙ ap (λ z. times_waiting w.saved z w.waiting m) d.stands.numbered ∙ world.drops drops m

  -- names of an untimed claim with which the walk finds nothing wrong are in order
  module _ (world : IsWorld sc w) (apart : FamiliesApart sc.rules.families) (ranked : RankedOnce sc.rules.families) where
    pub all_in_order : (index : ℕ) (terms : List LockTerm) (names : List LockName) → NameThem (now j) terms names → first_refused (claim_fault sc false s.case.held) index terms ≡ None
        → (n : LockName) → Among n names → IsOwn (seen j) n ⊎ IsAboveAll sc.rules.families (seen j) n
    all_in_order index [] [] named e n i = absurd i
    all_in_order index [] (m ∷ names) named e n i = absurd named
    all_in_order index (t ∷ terms) [] named e n i = absurd named
    all_in_order index (t ∷ terms) (m ∷ names) named e n i =
        let r = both (claim_fault sc false s.case.held t) refl e in
        ⊎_elim
        (λ (same : n ≡ m). claims_in_order sc w b s.case j d.stands world apart ranked t n (named.0 ∙ ap Some (sym same)) r.0)
        (λ (later : Among n names). all_in_order (index + 1) terms names named.1 r.1 n later) i
      where
        both : (o : Option Code) → claim_fault sc false s.case.held t ≡ o → or_here index o (first_refused (claim_fault sc false s.case.held) (index + 1) terms) ≡ None
            → (claim_fault sc false s.case.held t ≡ None) × (first_refused (claim_fault sc false s.case.held) (index + 1) terms ≡ None)
        both None f g = (f, g)
        both (Some code) f g = let z : Some (index, code) ≡ None = g in absurd (cc z)

-- the invariants of a job before a claim: a timed claim is not awaited
claiming : (rules : RuleLists) (j : Job) (names : List LockName) (timed : Bool) (ts : List Task) → j.tasks ≡ task.Claim names timed ∷ ts
    → (timed ≡ false → (n : LockName) → Among n names → IsOwn (seen j) n ⊎ IsAboveAll rules.families (seen j) n) → Facts rules j
claiming rules j names timed ts e h = record {
  covered = λ u r. let z : None ≡ Some u = sym (ap ready_in e) ∙ r in cc;
  in_order = λ n i. by n timed refl (subst (λ o. Among n (awaited o)) (ap next_claim e) i);
  ends = λ ended. let z : [] ≡ task.Claim names timed ∷ ts = sym ended.0 ∙ e in cc;
}
  where
    by : (n : LockName) (t : Bool) → timed ≡ t → Among n (if t then [] else names) → IsOwn (seen j) n ⊎ IsAboveAll rules.families (seen j) n
    by n true k i = absurd i
    by n false k i = h k n i

pub claim_facts : (sc : Scope) (w : World) (b : Level) (j : Job) (names : List LockName) (timed : Bool) (ts : List Task) → j.tasks ≡ task.Claim names timed ∷ ts
    → (timed ≡ false → (n : LockName) → Among n names → IsOwn (seen j) n ⊎ IsAboveAll sc.rules.families (seen j) n) → KeepsIn sc w b j
claim_facts sc w b j names timed ts e h marked = record {
  facts = claiming sc.rules j names timed ts e h;
  starts = no_start sc.routines sc.blocks w.begun j (task.Claim names timed ∷ ts) e refl;
  lines = no_line sc.routines sc.blocks w.begun j (task.Claim names timed ∷ ts) e refl;
  rounds = no_round sc.routines sc.blocks w.begun j (task.Claim names timed ∷ ts) e refl;
  inside = no_command sc.routines sc.rules (sc.blocks, sc.declared_entries) w.begun j (task.Claim names timed ∷ ts) e refl;
  between = no_argument sc.routines sc.rules (sc.blocks, sc.declared_entries) w.begun j (task.Claim names timed ∷ ts) e refl;
  jobs = no_start_of_job sc.routines sc.declared_entries j (task.Claim names timed ∷ ts) e refl;
}
