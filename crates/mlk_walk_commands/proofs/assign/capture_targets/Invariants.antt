use Rattle.std.proofs.Common.{◌≡◌, drop, map}
use Rattle.mlk_syntax.specs.Views.{target_of}
use Rattle.mlk_walk_exprs.specs.Spots.{spot_of}
use Rattle.mlk_walk_commands.specs.Arguments.{capture_targets}
use Rattle.mlk_walk_commands.proofs.assign.capture_targets.Given as goal

abbrev pub invariant-loop-target : goal.invariant-loop-target
invariant-loop-target l = capture_targets (spot_of l.spot) (map target_of (drop l.target-index l.targets)) l.walk
    ≡ capture_targets (spot_of l.spot) (map target_of l.fn.targets) l.fn.walk
