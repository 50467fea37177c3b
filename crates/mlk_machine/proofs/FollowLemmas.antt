-- Lines of a file of events, one after another.
use Rattle.std.proofs.Common.{◌≡◌, ◌∙◌, ◌+◌, ℕ, suc, List, [], ◌∷◌, length, map, Result, Ok, Err, refl, sym, ap, subst, arith}
use Rattle.std.specs.Prelude.{min}
use Rattle.mlk_text.specs.declared.failure.Failure.{Failure}
use Rattle.mlk_text.specs.declared.failure.Failure.TheVariants.{OutOfMemory, Refused}
use Rattle.mlk_text.specs.Failures.{FailsAs}
use Rattle.mlk_machine_locks.specs.declared.refusal.Refusal.{Refusal}
use Rattle.mlk_machine_locks.specs.Systems.{Machine, and_then}
use Rattle.mlk_syntax.specs.declared.routine.Routine.{Routine}
use Rattle.mlk_syntax.specs.Trees.{RoutineTree}
use Rattle.mlk_syntax.specs.Views.{routine_of}
use Rattle.mlk_program.specs.declared.entry.EntryId.{EntryId}
use Rattle.mlk_machine_jobs.specs.declared.choice.Choice.{Choice}
use Rattle.mlk_machine_jobs.specs.Tasks.{Job}
use Rattle.mlk_machine_jobs.specs.Seen.{settled_in}
use Rattle.mlk_machine.specs.Running.{Running}
use Rattle.mlk_machine.specs.Systems.{jobs_in, routines_in, machine_of, machine_in, IsSame}
use Rattle.mlk_machine.specs.declared.fault.EventsFault.{EventsFault}
use Rattle.mlk_machine.specs.declared.fault.EventsRefusal.{EventsRefusal}
use Rattle.mlk_machine.specs.declared.fault.EventsRefusal.TheVariants as refusal
use Rattle.mlk_machine.specs.declared.instruction.Instruction.{Instruction}
use Rattle.mlk_machine.specs.InstructionViews.{asked_of}
use Rattle.mlk_machine.specs.Files.{Asked, RunsAlone, SaysEvents, IsFirstOther, made, then_next, in_turn, StopsSo, FollowedSo, IsRefusedAt, IsStopped, ReplayedFile}

-- The rest has the result of the whole, if its first line has this number.
pub record Half (first now : Running) (all left : List Asked) (line : ℕ) : Type 0 where
  pub same : IsSame first now
  pub at : ℕ
  pub number : line ≡ min at 4294967295
  pub later : in_turn (machine_of first) (routines_in first) at left (jobs_in now)
      ≡ in_turn (machine_of first) (routines_in first) 1 all (jobs_in first)

pub half_begun : (s : Running) (all : List Asked) → Half s s all all 1
half_begun s all = record { same = record { program = refl; entries = refl }; at = 1; number = refl; later = refl }

-- the machine of a system with the same routines and entries
made_same : (s t : Running) (a : Asked) (jobs : List Job) (r : Result (List Job) Refusal) → IsSame s t
    → made (machine_of t) (routines_in t) a jobs ≡ r → made (machine_of s) (routines_in s) a jobs ≡ r
made_same s t a jobs r same h =
    ap (λ (p : List Routine). made (machine_in p s.entries) (map routine_of p) a jobs) (sym same.program)
    ∙ ap (λ (es : List EntryId). made (machine_in t.program es) (map routine_of t.program) a jobs) (sym same.entries) ∙ h

pub half_more : (first now next : Running) (all left later : List Asked) (a : Asked) (line after : ℕ)
    → Half first now all left line → left ≡ a ∷ later
    → made (machine_of now) (routines_in now) a (jobs_in now) ≡ Ok (jobs_in next) → IsSame now next
    → after ≡ min (line + 1) 4294967295 → Half first next all later after
half_more first now next all left later a line after h l o same n =
    let m = h.number in
    record {
      same = record { program = same.program ∙ h.same.program; entries = same.entries ∙ h.same.entries };
      at = suc h.at;
      number = omega (arith, m, n);
      later = sym (ap (λ asks. in_turn (machine_of first) (routines_in first) h.at asks (jobs_in now)) l
          ∙ ap (then_next (in_turn (machine_of first) (routines_in first) (suc h.at) later) h.at)
          (made_same first now a (jobs_in now) (Ok (jobs_in next)) h.same o)) ∙ h.later;
    }

pub half_stopped : (first now : Running) (all left later : List Asked) (a : Asked) (line : ℕ) (why : Refusal)
    → Half first now all left line → left ≡ a ∷ later
    → made (machine_of now) (routines_in now) a (jobs_in now) ≡ Err why
    → StopsSo (in_turn (machine_of first) (routines_in first) 1 all (jobs_in first)) line (refusal.Refused why)
half_stopped first now all left later a line why h l o = (
  h.at,
  sym h.later ∙ ap (λ asks. in_turn (machine_of first) (routines_in first) h.at asks (jobs_in now)) l
      ∙ ap (then_next (in_turn (machine_of first) (routines_in first) (suc h.at) later) h.at)
      (made_same first now a (jobs_in now) (Err why) h.same o),
  h.number,
)

pub half_all : (first now : Running) (all left : List Asked) (line : ℕ) → Half first now all left line → left ≡ []
    → in_turn (machine_of first) (routines_in first) 1 all (jobs_in first) ≡ Ok (jobs_in now)
half_all first now all left line h l =
    sym h.later ∙ ap (λ asks. in_turn (machine_of first) (routines_in first) h.at asks (jobs_in now)) l

pub none_left : (lines : List Instruction) → length lines ≡ 0 → map asked_of lines ≡ []
none_left [] h = refl
none_left (x ∷ lines) h = absurd (omega (arith, h))

-- a job that runs by itself
pub goes_on : (m : Machine Job Choice EntryId) (routines : List RoutineTree) (k count : ℕ) (old new : List Job)
    → settled_in routines k old ≡ Ok (new, count) → made m routines (RunsAlone k) old ≡ Ok new
goes_on m routines k count old new h = ap (and_then (λ r. Ok r.0)) h

pub stays_there : (m : Machine Job Choice EntryId) (routines : List RoutineTree) (k : ℕ) (old : List Job)
    (why : Failure Refusal) → FailsAs why (settled_in routines k old) → FailsAs why (made m routines (RunsAlone k) old)
stays_there m routines k old OutOfMemory h = tt
stays_there m routines k old (Refused why) h = ap (and_then (λ r. Ok r.0)) h

-- files
module _ (program : List Routine) (entries : List EntryId) (bytes : List ℕ) where
  pub form_refused : (why : Failure EventsFault) → IsRefusedAt (map routine_of program) bytes why
      → ReplayedFile program entries bytes (Err why)
  form_refused OutOfMemory h = tt
  form_refused (Refused fault) h = form_of fault.why fault.line h
    where
      form_of : (why : EventsRefusal) (line : ℕ) → (why ≡ refusal.Form) × IsFirstOther (map routine_of program) bytes line
          → ReplayedFile program entries bytes (Err (Refused (record { line = line; why = why })))
      form_of refusal.Form line h = h.1
      form_of (refusal.Refused r) line h = absurd (cc (h.0))

  pub all_followed : (asks : List Asked) (s t : Running)
      → s ≡ record { program = program; entries = entries; jobs = [] } → IsSame s t → SaysEvents (map routine_of program) bytes asks
      → FollowedSo (machine_of s) (routines_in s) asks (jobs_in s) (jobs_in t) (Ok tt)
      → ReplayedFile program entries bytes (Ok t)
  all_followed asks s t e same says h =
      let p = ap (λ (r : Running). r.program) e in
      let q = ap (λ (r : Running). r.entries) e in
      (same.program ∙ p, same.entries ∙ q, (asks, says, begun_so s e h))
    where
      begun_so : (r : Running) → r ≡ record { program = program; entries = entries; jobs = [] }
          → in_turn (machine_of r) (routines_in r) 1 asks (jobs_in r) ≡ Ok (jobs_in t)
          → in_turn (machine_in program entries) (map routine_of program) 1 asks [] ≡ Ok (jobs_in t)
      begun_so r e h = sym (ap (λ (r : Running). in_turn (machine_of r) (routines_in r) 1 asks (jobs_in r)) e) ∙ h

  pub follow_stopped : (asks : List Asked) (s : Running) (new : List Job) (why : Failure EventsFault)
      → s ≡ record { program = program; entries = entries; jobs = [] } → SaysEvents (map routine_of program) bytes asks
      → FollowedSo (machine_of s) (routines_in s) asks (jobs_in s) new (Err why)
      → ReplayedFile program entries bytes (Err why)
  follow_stopped asks s new OutOfMemory e says h = tt
  follow_stopped asks s new (Refused fault) e says h = stopped_by fault.why fault.line (begun_as s e h)
    where
      begun_as : (r : Running) → r ≡ record { program = program; entries = entries; jobs = [] }
          → StopsSo (in_turn (machine_of r) (routines_in r) 1 asks (jobs_in r)) fault.line fault.why
          → StopsSo (in_turn (machine_in program entries) (map routine_of program) 1 asks []) fault.line fault.why
      begun_as r e h =
          subst (λ answer. StopsSo answer fault.line fault.why)
          (ap (λ (r : Running). in_turn (machine_of r) (routines_in r) 1 asks (jobs_in r)) e) h

      stopped_by : (why : EventsRefusal) (line : ℕ)
          → StopsSo (in_turn (machine_in program entries) (map routine_of program) 1 asks []) line why
          → IsStopped program entries bytes line why
      stopped_by refusal.Form line h = absurd h
      stopped_by (refusal.Refused r) line h = (asks, says, h)
