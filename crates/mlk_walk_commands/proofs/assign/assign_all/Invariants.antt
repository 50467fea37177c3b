use Rattle.std.proofs.Common.{◌≡◌, drop, map}
use Rattle.mlk_syntax.specs.Views.{target_of}
use Rattle.mlk_walk_exprs.specs.Spots.{spot_of}
use Rattle.mlk_walk_commands.specs.Arguments.{assign_all, count_from, count_targets}
use Rattle.mlk_walk_commands.proofs.assign.assign_all.Given as goal

abbrev pub invariant-loop-target : goal.invariant-loop-target
invariant-loop-target l = (assign_all (spot_of l.spot) l.from (map target_of (drop l.target-index l.targets)) l.walk
    ≡ assign_all (spot_of l.spot) 0 (map target_of l.fn.targets) l.fn.walk)
    × (count_from l.from (map target_of (drop l.target-index l.targets)) ≡ count_targets (map target_of l.fn.targets))
