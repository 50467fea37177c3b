-- The numbers of jobs, in the order in which they began. This project's own.
use Rattle.std.specs.Prelude.{◌≡◌, ℕ, List, map}
use Rattle.mlk_machine_jobs.specs.declared.job.Job.{Job as JobIn}
use Rattle.mlk_machine_jobs.specs.JobViews.{job_of}
use Rattle.mlk_machine_jobs.specs.Tasks.{Job}

abbrev pub numbers_of : List Job → List ℕ
numbers_of jobs = map (λ j. j.number) jobs

abbrev pub AreNumbers : List ℕ → List JobIn → Type 0
AreNumbers numbers jobs = numbers ≡ numbers_of (map job_of jobs)
