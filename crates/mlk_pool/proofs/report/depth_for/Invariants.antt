use Rattle.std.proofs.Common.{◌≤◌, ◌-◌}
use Rattle.mlk_pool.proofs.report.depth_for.Given as goal

abbrev pub invariant-loop-depth : goal.invariant-loop-depth
invariant-loop-depth l = l.depth ≤ 6

abbrev pub decreases-loop-depth : goal.decreases-loop-depth
decreases-loop-depth l = 6 - l.depth
