use Rattle.mlk_soundness_machine.proofs.Claims.{claims_in_order}
use Rattle.mlk_soundness_machine.proofs.law.described_is_in_order.Goals as goal

pub returns : goal.returns
returns c = claims_in_order
