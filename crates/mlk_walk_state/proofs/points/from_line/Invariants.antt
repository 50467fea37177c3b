use Rattle.std.proofs.Common.{length}
use Rattle.mlk_walk_state.specs.Ends.{IsEnd}
use Rattle.mlk_walk_state.proofs.points.from_line.Given as goal

abbrev pub invariant-loop-point : goal.invariant-loop-point
invariant-loop-point l = IsEnd l.points l.left

abbrev pub decreases-loop-point : goal.decreases-loop-point
decreases-loop-point l = length l.left
