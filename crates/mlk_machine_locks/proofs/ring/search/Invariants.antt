use Rattle.std.proofs.Common.{reverse}
use Rattle.mlk_machine_locks.specs.Waiting.{waits_as}
use Rattle.mlk_machine_locks.specs.Searches.{IsMet, Searching, work}
use Rattle.mlk_machine_locks.proofs.ring.search.Given as goal

abbrev pub invariant-loop-stop : goal.invariant-loop-stop
invariant-loop-stop g l =
    Searching (waits_as g.J.Seen.seen) l.jobs l.marks.items (reverse l.path.items)
    × IsMet (waits_as g.J.Seen.seen) l.jobs (reverse l.path.items) l.start

abbrev pub decreases-loop-stop : goal.decreases-loop-stop
decreases-loop-stop g l = work l.marks.items l.path.items
