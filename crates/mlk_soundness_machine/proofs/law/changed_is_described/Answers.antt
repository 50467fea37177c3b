use Rattle.mlk_soundness_machine.proofs.Worlds.{change_law}
use Rattle.mlk_soundness_machine.proofs.law.changed_is_described.Goals as goal

pub returns : goal.returns
returns c = change_law
