use Rattle.mlk_walk_exprs.specs.Spots.{spot_of}
use Rattle.mlk_walk_lines.specs.Commands.{turn}
use Rattle.mlk_walk_lines.proofs.Turns.{turn_done}
use Rattle.mlk_walk_lines.proofs.argument.walk_arguments.Goals as goal

pub loop-argument-preserved : goal.loop-argument-preserved
loop-argument-preserved g c =
    turn_done g.A.Argument.tree (turn g.A.Argument.made (spot_of c.args.spot.now)) c.args.arguments.now c.loop-argument.argument-index
    c.argument-item.result c.loop-argument.walk _ _ c.loop-argument-test.true c.argument-item.is c.in_ok-apply_argument.ensures
    c.loop-argument.invariant
