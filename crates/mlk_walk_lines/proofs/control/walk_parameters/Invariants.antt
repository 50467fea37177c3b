use Rattle.std.proofs.Common.{◌≡◌, drop, map}
use Rattle.mlk_syntax.specs.Views.{parameter_of}
use Rattle.mlk_walk_exprs.specs.Spots.{spot_of}
use Rattle.mlk_walk_lines.specs.Loops.{rounds_of, parameters}
use Rattle.mlk_walk_lines.proofs.control.walk_parameters.Given as goal

abbrev pub invariant-loop-one : goal.invariant-loop-one
invariant-loop-one l =
    parameters (spot_of l.spot) (rounds_of l.rounds) (map parameter_of (drop l.one-index l.given)) l.walk
    ≡ parameters (spot_of l.spot) (rounds_of l.rounds) (map parameter_of l.fn.given) l.fn.walk
