use Rattle.std.proofs.Common.{◌∙◌, ap}
use Rattle.mlk_walk_exprs.specs.Spots.{spot_of}
use Rattle.mlk_walk_exprs.specs.Expressions.{values}
use Rattle.mlk_walk_commands.specs.Variables.{capture_variable}
use Rattle.mlk_walk_commands.proofs.Targets.{target_turn}
use Rattle.mlk_walk_commands.proofs.assign.capture_targets.Goals as goal

pub loop-target-preserved : goal.loop-target-preserved
loop-target-preserved c =
    let p = spot_of c.args.spot.now in
    target_turn p c.args.targets.now c.loop-target.target-index c.target-item.result c.loop-target.walk c.capture_variable.new.walk _ _
    c.loop-target-test.true c.target-item.is
    (c.in_ok-capture_variable.ensures ∙ ap (λ v. capture_variable p v c.loop-target.walk) c.variable_in.ensures)
    (c.in_ok-values.ensures ∙ ap (λ ts. values p ts c.capture_variable.new.walk) c.arguments_in.ensures)
    c.loop-target.invariant
