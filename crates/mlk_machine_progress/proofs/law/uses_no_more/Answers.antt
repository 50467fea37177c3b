use Rattle.mlk_machine_progress.proofs.Below.{uses_no_more}
use Rattle.mlk_machine_progress.proofs.law.uses_no_more.Goals as goal

pub returns : goal.returns
returns c = uses_no_more
