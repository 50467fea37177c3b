use Rattle.std.proofs.Common.{◌∙◌, ◌∷◌, [], sym}
use Rattle.mlk_calls.specs.Changes.{changed_state}
use Rattle.mlk_walk_exprs.specs.Walks.{each, each_changed}
use Rattle.mlk_walk_exprs.specs.Spots.{spot_of}
use Rattle.mlk_walk_commands.specs.Variables.{change_at}
use Rattle.mlk_walk_commands.proofs.Steps.{carried}
use Rattle.mlk_walk_commands.proofs.LocalChanges.{all_allow}
use Rattle.mlk_walk_commands.proofs.variable.Change.make_in_each.Goals as goal

pub returns-then-is_allowed : goal.returns-then-is_allowed
returns-then-is_allowed c =
    let r = c.args.self.now in
    let p = spot_of r.spot.now in
    carried c.make_in_place.result c.make_in_place.new.walk (each_changed (changed_state (r.names.now ∷ [])) c.args.walk.now)
    (each (change_at p r.column r.names.now) c.args.walk.now) c.make_in_place.ensures
    (sym (all_allow p r.column r.names.now c.args.walk.now (rw c.as_slice.ensures at (sym c.is_allowed.ensures ∙ c.if-is_allowed.true))))
