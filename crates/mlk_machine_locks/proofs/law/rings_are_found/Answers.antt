use Rattle.mlk_machine_locks.proofs.WaitLemmas.{rings_are_found}
use Rattle.mlk_machine_locks.proofs.law.rings_are_found.Goals as goal

pub returns : goal.returns
returns c = rings_are_found (λ j. j)
