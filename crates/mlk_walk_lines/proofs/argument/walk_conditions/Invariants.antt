use Rattle.std.proofs.Common.{◌≡◌, drop, map}
use Rattle.mlk_syntax.specs.ExprTrees.{tree_of}
use Rattle.mlk_walk_exprs.specs.Spots.{spot_of}
use Rattle.mlk_walk_commands.specs.Arguments.{if_argument}
use Rattle.mlk_walk_lines.specs.Commands.{in_turn}
use Rattle.mlk_walk_lines.proofs.argument.walk_conditions.Given as goal

abbrev pub invariant-loop-condition : goal.invariant-loop-condition
invariant-loop-condition l =
    in_turn if_argument (spot_of l.spot) (map tree_of (drop l.condition-index l.conditions)) l.walk
    ≡ in_turn if_argument (spot_of l.spot) (map tree_of l.fn.conditions) l.fn.walk
