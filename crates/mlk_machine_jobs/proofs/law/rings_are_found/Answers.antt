use Rattle.mlk_machine_jobs.proofs.MachineLemmas.{rings_found}
use Rattle.mlk_machine_jobs.proofs.law.rings_are_found.Goals as goal

pub returns : goal.returns
returns c = rings_found
