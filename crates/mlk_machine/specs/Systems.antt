-- A system, in the words of the definition. This project's own.
use Rattle.std.specs.Prelude.{◌≡◌, List, map}
use Rattle.mlk_machine_locks.specs.Systems.{Machine}
use Rattle.mlk_syntax.specs.declared.routine.Routine.{Routine}
use Rattle.mlk_syntax.specs.Trees.{RoutineTree}
use Rattle.mlk_syntax.specs.Views.{routine_of}
use Rattle.mlk_program.specs.declared.entry.EntryId.{EntryId}
use Rattle.mlk_machine_jobs.specs.declared.choice.Choice.{Choice}
use Rattle.mlk_machine_jobs.specs.JobViews.{job_of}
use Rattle.mlk_machine_jobs.specs.Runs.{machine}
use Rattle.mlk_machine_jobs.specs.Tasks.{Job}
use Rattle.mlk_machine.specs.Running.{Running}
use Rattle.mlk_machine.specs.Jobs.{is_listed}

abbrev pub jobs_in : Running → List Job
jobs_in s = map job_of s.jobs

abbrev pub routines_in : Running → List RoutineTree
routines_in s = map routine_of s.program

abbrev pub machine_in : List Routine → List EntryId → Machine Job Choice EntryId
machine_in program entries = machine (map routine_of program) (is_listed entries)

abbrev pub machine_of : Running → Machine Job Choice EntryId
machine_of s = machine_in s.program s.entries

-- the routines and the entries are unchanged
pub record IsSame (old new : Running) : Type 0 where
  pub program : new.program ≡ old.program
  pub entries : new.entries ≡ old.entries

-- all jobs are unchanged
abbrev pub Stays : Running → Running → Type 0
Stays old new = jobs_in new ≡ jobs_in old
