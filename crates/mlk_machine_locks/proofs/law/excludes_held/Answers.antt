use Rattle.mlk_machine_locks.proofs.NameLemmas.{excludes_held}
use Rattle.mlk_machine_locks.proofs.law.excludes_held.Goals as goal

pub returns : goal.returns
returns c = excludes_held
