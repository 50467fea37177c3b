use Rattle.std.proofs.Common.{arith, sym}
use Rattle.mlk_machine_locks.specs.Waiting.{waits_as}
use Rattle.mlk_machine_locks.proofs.SearchLemmas.{all_free}
use Rattle.mlk_machine_locks.proofs.ring.has_ring.Goals as goal

pub returns : goal.returns
returns g c = sym (all_free (waits_as g.J.Seen.seen) c.args.jobs.now
    (λ i l. c.loop-start.invariant.1 i (omega (arith, l, c.loop-start-test.false))))
