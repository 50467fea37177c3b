use Rattle.std.proofs.Common.{◌<◌, length, rules}
use Rattle.mlk_walk_state.specs.States.{without_last}
use Rattle.mlk_walk_exprs.proofs.InPlace.{changed_step}
use Rattle.mlk_walk_exprs.proofs.transfer.forget_captured.Goals as goal

pub loop-state-preserved : goal.loop-state-preserved
loop-state-preserved c =
    let low : c.loop-state.state-index < length c.loop-state.state-items = search rules in (
      c.loop-state.invariant.0,
      changed_step (without_last c.args.count) c.args.walk.now.going c.loop-state.state-items c.loop-state.state-index
          c.state-item.result _ low c.loop-state.invariant.1 c.forget_last.ensures,
    )
