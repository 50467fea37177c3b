use Rattle.std.proofs.Common.{List, ap}
use Rattle.mlk_machine_jobs.specs.Tasks.{Task}
use Rattle.mlk_machine_jobs.specs.Choices.{doing}
use Rattle.mlk_machine_jobs.specs.JobViews.{job_of}
use Rattle.mlk_machine_jobs.proofs.job.Job.quit.Goals as goal

pub returns-clause-changed : goal.returns-clause-changed
returns-clause-changed c =
    ap (λ (ts : List Task). doing ts (job_of c.args.self.now)) (c.quit.ensures.left c.args.self.now.binders.items)
