use Rattle.std.proofs.Common.{◌≡◌, drop, map}
use Rattle.mlk_walk_exprs.specs.Spots.{spot_of}
use Rattle.mlk_walk_lines.specs.Commands.{in_turn}
use Rattle.mlk_walk_lines.proofs.argument.walk_arguments.Given as goal

abbrev pub invariant-loop-argument : goal.invariant-loop-argument
invariant-loop-argument g l =
    in_turn g.A.Argument.made (spot_of l.spot) (map g.A.Argument.tree (drop l.argument-index l.arguments)) l.walk
    ≡ in_turn g.A.Argument.made (spot_of l.spot) (map g.A.Argument.tree l.fn.arguments) l.fn.walk
