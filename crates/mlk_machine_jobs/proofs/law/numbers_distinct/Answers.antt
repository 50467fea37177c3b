use Rattle.mlk_machine_jobs.proofs.MachineLemmas.{numbers_distinct}
use Rattle.mlk_machine_jobs.proofs.law.numbers_distinct.Goals as goal

pub returns : goal.returns
returns c = numbers_distinct
