use Rattle.mlk_machine_laws.proofs.Tidy.{each_is_tidy}
use Rattle.mlk_machine_laws.proofs.law.each_is_tidy.Goals as goal

pub returns : goal.returns
returns c = each_is_tidy
