use Rattle.mlk_machine_jobs.proofs.SettleLemmas.{settles_by_steps}
use Rattle.mlk_machine_jobs.proofs.law.settles_by_steps.Goals as goal

pub returns : goal.returns
returns c = settles_by_steps
