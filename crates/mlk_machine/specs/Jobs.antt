-- Queries on jobs by number. This project's own.
use Rattle.std.specs.Prelude.{ℕ, ◌==◌, ◌&&◌, Bool, false, if◌then◌else◌, List, [], ◌∷◌, Option, Some, None}
use Rattle.std.specs.List.{list_any}
use Rattle.mlk_names.specs.declared.lock_name.LockName.{LockName}
use Rattle.mlk_machine_locks.specs.Counts.{count_of}
use Rattle.mlk_machine_locks.specs.Waiting.{waits}
use Rattle.mlk_program.specs.declared.entry.EntryId.{EntryId}
use Rattle.mlk_machine_jobs.specs.Tasks.{Job}
use Rattle.mlk_machine_jobs.specs.Runs.{seen}

-- the first job with the given number
abbrev pub job_numbered : ℕ → List Job → Option Job
job_numbered k [] = None
job_numbered k (j ∷ jobs) = if j.number == k then Some j else job_numbered k jobs

-- both exist, and the first waits for the second
abbrev pub one_waits : Option Job → Option Job → Bool
one_waits (Some i) (Some j) = waits (seen i) (seen j)
one_waits (Some i) None = false
one_waits None other = false

-- how often a job holds a name, if the job exists
abbrev pub count_held : LockName → Option Job → ℕ
count_held n None = 0
count_held n (Some j) = count_of j.held n

-- jobs may begin at the entry
abbrev pub is_listed : List EntryId → EntryId → Bool
is_listed entries e = list_any (λ d. (d.routine == e.routine) && (d.line == e.line)) entries
