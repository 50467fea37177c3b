-- The effect of events, one after another, on a system. This project's own.
use Rattle.std.specs.Prelude.{◌≡◌, ℕ, List, [], Result, Ok, Err}
use Rattle.mlk_text.specs.declared.failure.Failure.{Failure}
use Rattle.mlk_text.specs.declared.failure.Failure.TheVariants.{OutOfMemory, Refused}
use Rattle.mlk_machine_locks.specs.declared.refusal.Refusal.{Refusal}
use Rattle.mlk_machine_locks.specs.Systems.{Event, after, count_happened}
use Rattle.mlk_syntax.specs.declared.routine.Routine.{Routine}
use Rattle.mlk_program.specs.declared.entry.EntryId.{EntryId}
use Rattle.mlk_machine_jobs.specs.declared.choice.Choice.{Choice}
use Rattle.mlk_machine_jobs.specs.Tasks.{Job}
use Rattle.mlk_machine.specs.declared.event.Event.{Event as EventIn}
use Rattle.mlk_machine.specs.Running.{Running}
use Rattle.mlk_machine.specs.Events.{act_of}
use Rattle.mlk_machine.specs.Systems.{jobs_in, machine_in}
use Rattle.mlk_machine.specs.declared.replaying.Refused.{Refused as RefusedAt}

abbrev pub event_of : EventIn → Event Choice EntryId
event_of e = record { job = e.job; act = act_of e.act }

-- it can't happen, for this reason; out of memory says nothing
abbrev pub FailsAt : ℕ → Failure RefusedAt → Result (List Job) Refusal → Type 0
FailsAt index OutOfMemory answer = Unit {0}
FailsAt index (Refused at) answer = (answer ≡ Err at.why) × (at.index ≡ index)

-- The jobs after events, or the first of them that can't happen, and why.
abbrev pub Replayed : List Routine → List EntryId → List (Event Choice EntryId) → Result Running (Failure RefusedAt)
    → Type 0
Replayed program entries events (Ok s) =
    (s.program ≡ program) × (s.entries ≡ entries)
    × (after (machine_in program entries) events [] ≡ Ok (jobs_in s))
Replayed program entries events (Err OutOfMemory) = Unit {0}
Replayed program entries events (Err (Refused at)) =
    (after (machine_in program entries) events [] ≡ Err at.why)
    × (count_happened (machine_in program entries) events [] ≡ at.index)
