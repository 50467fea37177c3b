-- Jobs that run together. This project's own.
use Rattle.std.specs.Prelude.{◌≡◌, ◌⊎◌, ◌<◌, ◌==◌, ℕ, List, [], ◌∷◌, Option, IfSome, length, map, position}
use Rattle.mlk_names.specs.Lists.{Among}
use Rattle.mlk_names.specs.declared.lock_name.LockName.{LockName}
use Rattle.mlk_machine_locks.specs.declared.table.LockTable.{LockTable}
use Rattle.mlk_machine_locks.specs.Tables.{Covers}
use Rattle.mlk_machine_locks.specs.Waiting.{View, Holds}
use Rattle.mlk_machine_jobs.specs.declared.job.Job.{Job as JobIn}
use Rattle.mlk_machine_jobs.specs.Tasks.{Job}
use Rattle.mlk_machine_jobs.specs.JobViews.{job_of}
use Rattle.mlk_machine_jobs.specs.Runs.{seen}
use Rattle.mlk_machine_jobs.specs.Sound.{Sound}
use Rattle.mlk_machine_run.specs.Frames.{claimed_in}

abbrev pub AreSound : List JobIn → Type 0
AreSound [] = Unit {0}
AreSound (j ∷ jobs) = Sound j × AreSound jobs

-- the index of the first job with the given number, if there is one
pub record IsPlaceOf (number : ℕ) (jobs : List JobIn) (place : Option ℕ) : Type 0 where
  pub first : place ≡ position (λ j. (seen j).number == number) (map job_of jobs)
  pub within : IfSome place (λ i. i < length jobs)

abbrev pub seen_in : JobIn → View
seen_in j = seen (job_of j)

-- a table that finds the jobs by what they held finds them by what they hold
abbrev pub StayCovered : List JobIn → List JobIn → Type 0
StayCovered old new = (t : LockTable) → Covers seen_in t old → Covers seen_in t new

-- what the job holds, it held before
abbrev pub TakesNone : Job → Job → Type 0
TakesNone old new = (n : LockName) → Holds (seen new) n → Holds (seen old) n

-- what the job holds, it held before, or claimed now
abbrev pub TakesClaimed : Job → Job → Type 0
TakesClaimed old new = (n : LockName) → Holds (seen new) n → Holds (seen old) n ⊎ Among n (claimed_in old.tasks)
