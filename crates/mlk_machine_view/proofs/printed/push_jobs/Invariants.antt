use Rattle.std.proofs.Common.{◌≡◌, ◌++◌, drop}
use Rattle.mlk_cert_lexemes.specs.Lists.{flat}
use Rattle.mlk_machine_view.specs.Lines.{line_of_job}
use Rattle.mlk_machine_view.proofs.printed.push_jobs.Given as goal

abbrev pub invariant-loop-job : goal.invariant-loop-job
invariant-loop-job l = l.text ++ flat (line_of_job l.program) (drop l.job-index l.jobs) ≡ l.fn.text ++ flat (line_of_job l.program) l.jobs
