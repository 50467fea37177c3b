use Rattle.mlk_machine_jobs.proofs.MachineLemmas.{one_run_of_many}
use Rattle.mlk_machine_jobs.proofs.law.one_run_of_many.Goals as goal

pub returns : goal.returns
returns c = one_run_of_many
