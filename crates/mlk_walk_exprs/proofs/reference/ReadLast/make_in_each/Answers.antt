use Rattle.std.proofs.Common.{◌∙◌, sym}
use Rattle.mlk_walk_state.specs.States.{without_last}
use Rattle.mlk_walk_exprs.specs.Walks.{each, each_changed}
use Rattle.mlk_walk_exprs.specs.Spots.{spot_of}
use Rattle.mlk_walk_exprs.specs.References.{read_last}
use Rattle.mlk_walk_exprs.proofs.Opened.{carried}
use Rattle.mlk_walk_exprs.proofs.Passing.{all_read}
use Rattle.mlk_walk_exprs.proofs.reference.ReadLast.make_in_each.Goals as goal

pub returns-then-are_covered : goal.returns-then-are_covered
returns-then-are_covered c =
    let r = c.args.self.now in
    let p = spot_of r.spot.now in
    carried c.forget_captured.result c.forget_captured.new.walk (each_changed (without_last r.count) c.args.walk.now)
    (each (read_last p r.how r.column r.name.now r.count) c.args.walk.now) c.forget_captured.ensures
    (all_read p r.how r.column r.name.now r.count c.args.walk.now (rw c.as_slice.ensures at (sym c.are_covered.ensures ∙ c.if-are_covered.true)))
