use Rattle.std.proofs.Common.{◌≡◌, true, length}
use Rattle.mlk_cert_parts.specs.Limits.{points_below}
use Rattle.mlk_cert_lexemes.specs.Lists.{ascends}
use Rattle.mlk_walk_state.specs.Scope.{listed_at}
use Rattle.mlk_walk_state.proofs.points.cases_next.Given as goal

abbrev pub invariant-loop-point : goal.invariant-loop-point
invariant-loop-point l = (ascends points_below l.left ≡ true)
    × (listed_at l.points l.line l.round ≡ listed_at l.left l.line l.round)

abbrev pub decreases-loop-point : goal.decreases-loop-point
decreases-loop-point l = length l.left
