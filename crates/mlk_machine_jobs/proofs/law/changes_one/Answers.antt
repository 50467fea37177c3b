use Rattle.mlk_machine_jobs.proofs.MachineLemmas.{changes_one}
use Rattle.mlk_machine_jobs.proofs.law.changes_one.Goals as goal

pub returns : goal.returns
returns c = changes_one
