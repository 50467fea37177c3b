use Rattle.mlk_machine_jobs.proofs.MachineLemmas.{leaving_out}
use Rattle.mlk_machine_jobs.proofs.law.leaving_out.Goals as goal

pub returns : goal.returns
returns c = leaving_out
