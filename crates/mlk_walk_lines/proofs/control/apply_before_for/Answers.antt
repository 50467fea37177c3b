use Rattle.mlk_syntax.specs.Views.{command_of}
use Rattle.mlk_walk_exprs.specs.Spots.{spot_of}
use Rattle.mlk_walk_lines.specs.Loops.{one_command}
use Rattle.mlk_walk_lines.proofs.Turns.{turn_done}
use Rattle.mlk_walk_lines.proofs.control.apply_before_for.Goals as goal

pub loop-command-preserved : goal.loop-command-preserved
loop-command-preserved c =
    turn_done command_of (one_command (spot_of c.args.spot.now)) c.args.given.now c.loop-command.command-index
    c.command-item.result c.loop-command.walk _ _ c.loop-command-test.true c.command-item.is c.in_ok-one_command.ensures
    c.loop-command.invariant
