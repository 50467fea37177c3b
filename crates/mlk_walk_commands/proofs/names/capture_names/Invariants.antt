use Rattle.std.proofs.Common.{◌≡◌, drop, map}
use Rattle.mlk_syntax.specs.Views.{variable_of}
use Rattle.mlk_walk_exprs.specs.Spots.{spot_of}
use Rattle.mlk_walk_commands.specs.Locks.{capture_names}
use Rattle.mlk_walk_commands.proofs.names.capture_names.Given as goal

abbrev pub invariant-loop-name : goal.invariant-loop-name
invariant-loop-name l = capture_names (spot_of l.spot) (map variable_of (drop l.name-index l.names)) l.walk
    ≡ capture_names (spot_of l.spot) (map variable_of l.fn.names) l.fn.walk
