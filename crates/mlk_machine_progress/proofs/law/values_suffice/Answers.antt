use Rattle.mlk_machine_progress.proofs.Values.{values_suffice}
use Rattle.mlk_machine_progress.proofs.law.values_suffice.Goals as goal

pub returns : goal.returns
returns c = values_suffice
