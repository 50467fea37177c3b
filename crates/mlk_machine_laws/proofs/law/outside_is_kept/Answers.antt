use Rattle.mlk_machine_laws.proofs.Outside.{outside_is_kept}
use Rattle.mlk_machine_laws.proofs.law.outside_is_kept.Goals as goal

pub returns : goal.returns
returns c = outside_is_kept
