use Rattle.mlk_soundness_walk.proofs.OneJob.{one_job}
use Rattle.mlk_soundness_walk.proofs.law.one_job.Goals as goal

pub returns : goal.returns
returns c = one_job
