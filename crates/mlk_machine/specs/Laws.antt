-- The result of a replay is a moment of a run. This project's own.
use Rattle.std.specs.Prelude.{◌≡◌, ℕ, Bool, List, [], ◌∷◌, replicate, Ok}
use Rattle.std.specs.List.{flat_map}
use Rattle.mlk_machine_locks.specs.Systems.{Machine, Event, Go, after}
use Rattle.mlk_syntax.specs.declared.routine.Routine.{Routine}
use Rattle.mlk_syntax.specs.Trees.{RoutineTree}
use Rattle.mlk_program.specs.declared.entry.EntryId.{EntryId}
use Rattle.mlk_cert_lexemes.specs.Lists.{EachPair}
use Rattle.mlk_machine_jobs.specs.declared.choice.Choice.{Choice}
use Rattle.mlk_machine_jobs.specs.declared.choice.Choice.TheVariants as choice
use Rattle.mlk_machine_jobs.specs.Tasks.{Job}
use Rattle.mlk_machine_jobs.specs.Runs.{machine}
use Rattle.mlk_machine.specs.Running.{Running}
use Rattle.mlk_machine.specs.Systems.{jobs_in, machine_in}
use Rattle.mlk_machine.specs.Replays.{Replayed}
use Rattle.mlk_machine.specs.Files.{Asked, Happens, RunsAlone, in_turn, ReplayedFile}

-- The events that a line denotes: its own, or steps without a choice of the job that runs by itself.
abbrev pub StandFor : Asked → List (Event Choice EntryId) → Type 0
StandFor (Happens e) events = events ≡ e ∷ []
StandFor (RunsAlone k) events = (count : ℕ) × (events ≡ replicate count (record { job = k; act = Go choice.None }))

-- Events, some for each of these lines, lead from old jobs to new ones.
pub record AreMade (m : Machine Job Choice EntryId) (asks : List Asked) (old new : List Job) : Type 0 where
  pub events : List (List (Event Choice EntryId))
  pub each : EachPair StandFor asks events
  pub come_to : after m (flat_map (λ es. es) events) old ≡ Ok new

-- The effect of lines on jobs is that of the events that they denote.
abbrev pub LinesAreEvents : Type 0
LinesAreEvents =
    (routines : List RoutineTree) (declared : EntryId → Bool) (line : ℕ) (asks : List Asked) (old new : List Job)
    → in_turn (machine routines declared) routines line asks old ≡ Ok new
    → AreMade (machine routines declared) asks old new

-- Some events, starting without jobs, lead to these jobs.
abbrev pub IsMoment : List Routine → List EntryId → List Job → Type 0
IsMoment program entries jobs =
    (events : List (Event Choice EntryId)) × (after (machine_in program entries) events [] ≡ Ok jobs)

-- The result of events, or of all lines of a file of them, is a moment of a run of the program.
pub record ReplaysAreRuns : Type 0 where
  pub of_events : (program : List Routine) (entries : List EntryId) (events : List (Event Choice EntryId)) (s : Running)
      → Replayed program entries events (Ok s) → IsMoment program entries (jobs_in s)
  pub of_file : (program : List Routine) (entries : List EntryId) (bytes : List ℕ) (s : Running)
      → ReplayedFile program entries bytes (Ok s) → IsMoment program entries (jobs_in s)
