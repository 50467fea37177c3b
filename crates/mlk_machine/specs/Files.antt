-- The replay of a file of events. This project's own.
use Rattle.std.specs.Prelude.{◌≡◌, ◌≢◌, ℕ, suc, List, [], ◌∷◌, ◌++◌, length, map, min, Option, Some, option_map, Result, Ok, Err}
use Rattle.mlk_text.specs.declared.failure.Failure.{Failure}
use Rattle.mlk_text.specs.declared.failure.Failure.TheVariants.{OutOfMemory, Refused}
use Rattle.mlk_machine_locks.specs.declared.refusal.Refusal.{Refusal}
use Rattle.mlk_machine_locks.specs.Systems.{Machine, Event, Begin, Go, Abort, and_then, happens}
use Rattle.mlk_syntax.specs.declared.routine.Routine.{Routine}
use Rattle.mlk_syntax.specs.Trees.{RoutineTree}
use Rattle.mlk_syntax.specs.Views.{routine_of}
use Rattle.mlk_program.specs.declared.entry.EntryId.{EntryId}
use Rattle.mlk_program.specs.Entries.{entry_by}
use Rattle.mlk_cert_lexemes.specs.Lists.{EachPair}
use Rattle.mlk_machine.specs.declared.event_line.EventLine.{EventLine}
use Rattle.mlk_machine.specs.declared.event_line.EventLine.TheVariants as order
use Rattle.mlk_machine.specs.EventTexts.{IsEventLine, line_text, file_text}
use Rattle.mlk_machine_jobs.specs.declared.choice.Choice.{Choice}
use Rattle.mlk_machine_jobs.specs.declared.choice.Choice.TheVariants as choice
use Rattle.mlk_machine_jobs.specs.Tasks.{Job}
use Rattle.mlk_machine_jobs.specs.Seen.{settled_in}
use Rattle.mlk_machine.specs.Running.{Running}
use Rattle.mlk_machine.specs.Systems.{jobs_in, machine_in}
use Rattle.mlk_machine.specs.declared.fault.EventsFault.{EventsFault}
use Rattle.mlk_machine.specs.declared.fault.EventsRefusal.{EventsRefusal}
use Rattle.mlk_machine.specs.declared.fault.EventsRefusal.TheVariants as refusal

-- The meaning of a line: an event happens, or a job runs by itself.
pub data Asked : Type 0 where
  Happens : (event : Event Choice EntryId) → Asked
  RunsAlone : (job : ℕ) → Asked

abbrev pub goes : ℕ → Choice → Option Asked
goes k c = Some (Happens (record { job = k; act = Go c }))

-- The meaning of an order for these routines: none if a job is to begin at an entry that they don't have.
abbrev pub asked : List RoutineTree → EventLine → Option Asked
asked routines (order.Begin b) =
    option_map (λ e. Happens (record { job = b.job; act = Begin e b.test (map Some b.values) })) (entry_by routines b.entry)
asked routines (order.Go k) = goes k choice.None
asked routines (order.GoValue k value) = goes k (choice.Value value)
asked routines (order.GoTruth k truth) = goes k (choice.Truth truth)
asked routines (order.Run k) = Some (RunsAlone k)
asked routines (order.Abort k) = Some (Happens (record { job = k; act = Abort }))

abbrev pub AsksFor : List RoutineTree → EventLine → Asked → Type 0
AsksFor routines o a = IsEventLine o × (asked routines o ≡ Some a)

-- The meanings of the lines of a file.
pub record SaysEvents (routines : List RoutineTree) (bytes : List ℕ) (asks : List Asked) : Type 0 where
  pub orders : List EventLine
  pub whole : bytes ≡ file_text orders
  pub each : EachPair (AsksFor routines) orders asks

-- The first line without a meaning: before it are only lines with a meaning, their number is given, and no line with a meaning
-- begins the rest.
pub record IsFirstOther (routines : List RoutineTree) (bytes : List ℕ) (line : ℕ) : Type 0 where
  pub before : List EventLine
  pub asks : List Asked
  pub rest : List ℕ
  pub whole : bytes ≡ file_text before ++ rest
  pub each : EachPair (AsksFor routines) before asks
  pub more : rest ≢ []
  pub other : (o : EventLine) (a : Asked) (later : List ℕ) → AsksFor routines o a → rest ≡ line_text o ++ later → ⊥
  pub number : line ≡ min (suc (length before)) 4294967295

-- The effect of a line on the jobs.
abbrev pub made : Machine Job Choice EntryId → List RoutineTree → Asked → List Job → Result (List Job) Refusal
made m routines (Happens e) jobs = happens m jobs e.job e.act
made m routines (RunsAlone k) jobs = and_then (λ r. Ok r.0) (settled_in routines k jobs)

-- The effect of lines one after another, numbered from a given number on: the jobs, or the number of the line that can't happen,
-- and why.
abbrev pub then_next : (List Job → Result (List Job) (ℕ × Refusal)) → ℕ → Result (List Job) Refusal
    → Result (List Job) (ℕ × Refusal)
then_next later line (Ok jobs) = later jobs
then_next later line (Err why) = Err (line, why)

abbrev pub in_turn : Machine Job Choice EntryId → List RoutineTree → ℕ → List Asked → List Job
    → Result (List Job) (ℕ × Refusal)
in_turn m routines line [] jobs = Ok jobs
in_turn m routines line (a ∷ asks) jobs = then_next (in_turn m routines (suc line) asks) line (made m routines a jobs)

-- a line that can't happen is reported by its number
abbrev pub StopsSo : Result (List Job) (ℕ × Refusal) → ℕ → EventsRefusal → Type 0
StopsSo answer line refusal.Form = ⊥
StopsSo answer line (refusal.Refused why) = (at : ℕ) × (answer ≡ Err (at, why)) × (line ≡ min at 4294967295)

-- the jobs after lines one after another; out of memory says nothing
abbrev pub FollowedSo : Machine Job Choice EntryId → List RoutineTree → List Asked → List Job → List Job
    → Result (Unit {0}) (Failure EventsFault) → Type 0
FollowedSo m routines asks old new (Ok done) = in_turn m routines 1 asks old ≡ Ok new
FollowedSo m routines asks old new (Err OutOfMemory) = Unit {0}
FollowedSo m routines asks old new (Err (Refused fault)) = StopsSo (in_turn m routines 1 asks old) fault.line fault.why

abbrev pub IsRefusedAt : List RoutineTree → List ℕ → Failure EventsFault → Type 0
IsRefusedAt routines bytes OutOfMemory = Unit {0}
IsRefusedAt routines bytes (Refused fault) = (fault.why ≡ refusal.Form) × IsFirstOther routines bytes fault.line

-- why a file isn't replayed: a line has no meaning, or all have one and one can't happen
abbrev pub IsStopped : List Routine → List EntryId → List ℕ → ℕ → EventsRefusal → Type 0
IsStopped program entries bytes line refusal.Form = IsFirstOther (map routine_of program) bytes line
IsStopped program entries bytes line (refusal.Refused why) =
    (asks : List Asked) × SaysEvents (map routine_of program) bytes asks
    × StopsSo (in_turn (machine_in program entries) (map routine_of program) 1 asks []) line (refusal.Refused why)

-- The jobs after all lines of a file, starting without jobs; or the line at which the replay stops, and why.
abbrev pub ReplayedFile : List Routine → List EntryId → List ℕ → Result Running (Failure EventsFault) → Type 0
ReplayedFile program entries bytes (Ok s) =
    (s.program ≡ program) × (s.entries ≡ entries)
    × ((asks : List Asked) × SaysEvents (map routine_of program) bytes asks
    × (in_turn (machine_in program entries) (map routine_of program) 1 asks [] ≡ Ok (jobs_in s)))
ReplayedFile program entries bytes (Err OutOfMemory) = Unit {0}
ReplayedFile program entries bytes (Err (Refused fault)) = IsStopped program entries bytes fault.line fault.why
