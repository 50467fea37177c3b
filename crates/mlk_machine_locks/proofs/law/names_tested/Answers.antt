use Rattle.mlk_machine_locks.proofs.NameLemmas.{names_tested}
use Rattle.mlk_machine_locks.proofs.law.names_tested.Goals as goal

pub returns : goal.returns
returns c = names_tested
