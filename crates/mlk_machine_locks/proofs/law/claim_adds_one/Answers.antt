use Rattle.mlk_machine_locks.proofs.Counting.{claim_adds_one}
use Rattle.mlk_machine_locks.proofs.law.claim_adds_one.Goals as goal

pub returns : goal.returns
returns c = claim_adds_one
