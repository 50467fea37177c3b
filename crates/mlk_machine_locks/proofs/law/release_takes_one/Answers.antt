use Rattle.mlk_machine_locks.proofs.Counting.{release_takes_one}
use Rattle.mlk_machine_locks.proofs.law.release_takes_one.Goals as goal

pub returns : goal.returns
returns c = release_takes_one
