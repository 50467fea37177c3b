use Rattle.std.proofs.Common.{◌<◌, ◌∷◌, [], length, rules}
use Rattle.mlk_calls.specs.Changes.{changed_state}
use Rattle.mlk_walk_exprs.proofs.InPlace.{changed_step}
use Rattle.mlk_walk_commands.proofs.variable.Change.make_in_place.Goals as goal

pub loop-state-preserved : goal.loop-state-preserved
loop-state-preserved c =
    let low : c.loop-state.state-index < length c.loop-state.state-items = search rules in (
      c.loop-state.invariant.0,
      changed_step (changed_state (c.args.self.now.names.now ∷ [])) c.args.walk.now.going c.loop-state.state-items
          c.loop-state.state-index c.state-item.result _ low c.loop-state.invariant.1
          (rw c.from_ref-names.ensures.value at c.in_ok-change_in_place.ensures),
    )
