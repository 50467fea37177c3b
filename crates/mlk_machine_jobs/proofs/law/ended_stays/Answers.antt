use Rattle.mlk_machine_jobs.proofs.MachineLemmas.{ended_stays}
use Rattle.mlk_machine_jobs.proofs.law.ended_stays.Goals as goal

pub returns : goal.returns
returns c = ended_stays
