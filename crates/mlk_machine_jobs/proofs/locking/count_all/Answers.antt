use Rattle.mlk_machine_jobs.proofs.LockNameLemmas.{counted_up}
use Rattle.mlk_machine_jobs.proofs.locking.count_all.Goals as goal

pub returns : goal.returns
returns c = counted_up c.loop-variable.left.now c.loop-variable.count _ c.in_default.ensures.cases
    c.loop-variable.invariant.0 c.loop-variable.invariant.1
