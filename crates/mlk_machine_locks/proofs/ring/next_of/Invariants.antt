use Rattle.std.proofs.Common.{length}
use Rattle.mlk_machine_locks.specs.Waiting.{waits_as}
use Rattle.mlk_machine_locks.specs.Searches.{Waits}
use Rattle.mlk_machine_locks.proofs.ring.next_of.Given as goal

abbrev pub invariant-loop-place : goal.invariant-loop-place
invariant-loop-place g l = Waits (waits_as g.J.Seen.seen) l.jobs l.job l.left.items

abbrev pub decreases-loop-place : goal.decreases-loop-place
decreases-loop-place g l = length l.left.items
