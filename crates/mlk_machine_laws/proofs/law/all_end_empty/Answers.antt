use Rattle.mlk_machine_laws.proofs.Runs.{all_end_empty}
use Rattle.mlk_machine_laws.proofs.law.all_end_empty.Goals as goal

pub returns : goal.returns
returns c = all_end_empty
