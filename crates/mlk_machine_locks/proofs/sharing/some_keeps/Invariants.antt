use Rattle.std.proofs.Common.{◌≡◌, ◌&&◌, ◌==◌, not, length}
use Rattle.std.specs.List.{list_any}
use Rattle.mlk_machine_locks.specs.Counts.{excludes}
use Rattle.mlk_machine_locks.proofs.sharing.some_keeps.Given as goal

abbrev pub invariant-loop-job : goal.invariant-loop-job
invariant-loop-job g l =
    list_any (λ j. not ((g.J.Seen.seen j).number == l.number) && excludes (g.J.Seen.seen j).held l.name) l.left
    ≡ list_any (λ j. not ((g.J.Seen.seen j).number == l.number) && excludes (g.J.Seen.seen j).held l.name) l.jobs

abbrev pub decreases-loop-job : goal.decreases-loop-job
decreases-loop-job g l = length l.left
