use Rattle.std.proofs.Common.{◌∙◌, ap}
use Rattle.mlk_syntax.specs.ExprTrees.{tree_of}
use Rattle.mlk_walk_exprs.specs.Walks.{few}
use Rattle.mlk_walk_exprs.specs.Spots.{spot_of}
use Rattle.mlk_walk_commands.specs.Arguments.{if_argument}
use Rattle.mlk_walk_lines.specs.Commands.{turn}
use Rattle.mlk_walk_lines.proofs.Turns.{turn_done}
use Rattle.mlk_walk_lines.proofs.argument.walk_conditions.Goals as goal

pub loop-condition-preserved : goal.loop-condition-preserved
loop-condition-preserved c =
    turn_done tree_of (turn if_argument (spot_of c.args.spot.now)) c.args.conditions.now c.loop-condition.condition-index
    c.condition-item.result c.loop-condition.walk _ _ c.loop-condition-test.true c.condition-item.is
    (c.in_ok-limit_states.ensures ∙ ap (few c.args.spot.now.line c.args.spot.now.word) c.in_ok-if_argument.ensures)
    c.loop-condition.invariant
