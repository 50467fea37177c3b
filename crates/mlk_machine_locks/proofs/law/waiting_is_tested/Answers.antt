use Rattle.mlk_machine_locks.proofs.WaitLemmas.{waiting_is_tested}
use Rattle.mlk_machine_locks.proofs.law.waiting_is_tested.Goals as goal

pub returns : goal.returns
returns c = waiting_is_tested
