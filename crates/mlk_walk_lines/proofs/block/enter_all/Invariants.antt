use Rattle.std.proofs.Common.{◌≡◌}
use Rattle.std.specs.Prelude.{flat_map}
use Rattle.std.specs.List.{list_any}
use Rattle.mlk_walk_exprs.specs.Walks.{add_all}
use Rattle.mlk_walk_exprs.specs.Spots.{spot_of}
use Rattle.mlk_walk_lines.specs.Commands.{enters, enter_row}
use Rattle.mlk_walk_lines.proofs.block.enter_all.Given as goal

abbrev pub invariant-loop-state : goal.invariant-loop-state
invariant-loop-state l = (l.some ≡ list_any (enters (spot_of l.spot) l.block) l.yielded)
    × (l.walk ≡ add_all (flat_map (enter_row (spot_of l.spot) l.block) l.yielded) l.fn.walk)
