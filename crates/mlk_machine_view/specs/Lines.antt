-- The line of a job of the code. For private clauses only. This project's own.
use Rattle.std.specs.Prelude.{ℕ, List, map}
use Rattle.mlk_syntax.specs.declared.routine.Routine.{Routine}
use Rattle.mlk_syntax.specs.Views.{routine_of}
use Rattle.mlk_machine_jobs.specs.declared.job.Job.{Job as JobIn}
use Rattle.mlk_machine_jobs.specs.JobViews.{job_of}
use Rattle.mlk_machine_view.specs.Printed.{job_line}

abbrev pub line_of_job : List Routine → JobIn → List ℕ
line_of_job program j = job_line (map routine_of program) (job_of j)
