use Rattle.mlk_machine_progress.proofs.Goes.{jobs_continue}
use Rattle.mlk_machine_progress.proofs.law.jobs_continue.Goals as goal

pub returns : goal.returns
returns c = jobs_continue
