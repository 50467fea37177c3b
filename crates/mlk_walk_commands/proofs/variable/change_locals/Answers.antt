use Rattle.std.proofs.Common.{◌≡◌, ◌∷◌, [], sym, rules}
use Rattle.mlk_syntax.specs.ExprTrees.{sub_trees, subs_from}
use Rattle.mlk_walk_exprs.specs.Spots.{spot_of}
use Rattle.mlk_walk_exprs.specs.Walks.{each, put_states, with_states}
use Rattle.mlk_walk_commands.specs.Variables.{change_local}
use Rattle.mlk_walk_commands.proofs.Steps.{carried}
use Rattle.mlk_walk_commands.proofs.LocalChanges.{local_stays}
use Rattle.mlk_walk_commands.proofs.variable.change_locals.Goals as goal

pub returns-in-Some : goal.returns-in-Some
returns-in-Some c =
    let p = spot_of c.args.spot.now in
    let first = c.in-Some.field-0.0.now in
    let others = c.in-Some.field-0.1.now in
    let is : c.args.subscripts.now ≡ first ∷ others = search rules in
    carried c.remove_duplicates.result c.remove_duplicates.new.self (with_states (put_states c.args.walk.now.going []) c.args.walk.now)
    (each (change_local p c.args.column c.args.name.now (subs_from (sub_trees c.args.subscripts.now))) c.args.walk.now) c.remove_duplicates.ensures
    (sym (local_stays p c.args.column c.args.name.now c.args.walk.now c.args.subscripts.now first others is))
