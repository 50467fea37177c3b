use Rattle.std.proofs.Common.{◌∙◌, [], sym}
use Rattle.mlk_walk_exprs.specs.Walks.{each, put_states, with_states}
use Rattle.mlk_walk_exprs.specs.Spots.{spot_of}
use Rattle.mlk_walk_exprs.specs.References.{touch}
use Rattle.mlk_walk_exprs.proofs.Passing.{all_touch}
use Rattle.mlk_walk_commands.specs.Arguments.{symbols_at}
use Rattle.mlk_walk_commands.proofs.Steps.{carried}
use Rattle.mlk_walk_commands.proofs.assign.TouchAt.make_in_each.Goals as goal

pub returns-then-are_covered : goal.returns-then-are_covered
returns-then-are_covered c =
    let r = c.args.self.now in
    let t = r.touch in
    let p = spot_of r.spot.now in
    carried c.remove_duplicates.result c.remove_duplicates.new.self (with_states (put_states c.args.walk.now.going []) c.args.walk.now)
    (each (λ s. touch p t.extent t.access t.column t.name.now (symbols_at r.from r.count s) s) c.args.walk.now) c.remove_duplicates.ensures
    (sym (all_touch p t.extent t.access t.column t.name.now (symbols_at r.from r.count) c.args.walk.now
    (rw c.as_slice.ensures at (sym c.are_covered.ensures ∙ c.if-are_covered.true))))
