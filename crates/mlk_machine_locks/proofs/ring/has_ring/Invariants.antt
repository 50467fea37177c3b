use Rattle.std.proofs.Common.{◌<◌, ◌-◌, ℕ, [], length}
use Rattle.mlk_machine_locks.specs.Waiting.{waits_as}
use Rattle.mlk_machine_locks.specs.Searches.{FreeAt, Searching}
use Rattle.mlk_machine_locks.proofs.ring.has_ring.Given as goal

abbrev pub invariant-loop-start : goal.invariant-loop-start
invariant-loop-start g l =
    Searching (waits_as g.J.Seen.seen) l.jobs l.marks.items []
    × ((i : ℕ) → i < l.start → FreeAt (waits_as g.J.Seen.seen) l.jobs i)

abbrev pub decreases-loop-start : goal.decreases-loop-start
decreases-loop-start g l = length l.jobs - l.start
