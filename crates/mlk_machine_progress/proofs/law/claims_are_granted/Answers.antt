use Rattle.mlk_machine_progress.proofs.Goes.{claims_are_granted}
use Rattle.mlk_machine_progress.proofs.law.claims_are_granted.Goals as goal

pub returns : goal.returns
returns c = claims_are_granted
