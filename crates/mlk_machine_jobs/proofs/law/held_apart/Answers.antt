use Rattle.mlk_machine_jobs.proofs.MachineLemmas.{held_apart}
use Rattle.mlk_machine_jobs.proofs.law.held_apart.Goals as goal

pub returns : goal.returns
returns c = held_apart
