use Rattle.mlk_machine_laws.proofs.Tidy.{new_is_new}
use Rattle.mlk_machine_laws.proofs.law.new_is_new.Goals as goal

pub returns : goal.returns
returns c = new_is_new
