use Rattle.std.proofs.Common.{List, ap}
use Rattle.mlk_machine_jobs.specs.Tasks.{Task}
use Rattle.mlk_machine_jobs.specs.Choices.{doing}
use Rattle.mlk_machine_jobs.specs.JobViews.{job_of}
use Rattle.mlk_machine_jobs.proofs.job.Job.go_to.Goals as goal

pub returns-clause-ok : goal.returns-clause-ok
returns-clause-ok c =
    ap (λ (ts : List Task). doing ts (job_of c.args.self.now)) (c.in_ok-replace_to_end.ensures.ok c.args.self.now.binders.items)
