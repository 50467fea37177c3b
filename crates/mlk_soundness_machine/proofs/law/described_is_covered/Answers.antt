use Rattle.mlk_soundness_machine.proofs.Touches.{is_covered}
use Rattle.mlk_soundness_machine.proofs.law.described_is_covered.Goals as goal

pub returns : goal.returns
returns c = is_covered
