use Rattle.std.proofs.Common.{◌≡◌, length}
use Rattle.mlk_walk_state.specs.Scope.{listed_at}
use Rattle.mlk_walk_state.proofs.points.cases_at.Given as goal

abbrev pub invariant-loop-point : goal.invariant-loop-point
invariant-loop-point l = listed_at l.left l.line l.round ≡ listed_at l.fn.points l.line l.round

abbrev pub decreases-loop-point : goal.decreases-loop-point
decreases-loop-point l = length l.left
