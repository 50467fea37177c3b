use Rattle.std.proofs.Common.{rules, of_calls}
use Rattle.std.proofs.lemmas.Fn.{always_returns_same}
use Rattle.mlk_walk_state.specs.Points.{is_before}
use Rattle.mlk_walk_state.proofs.PointOrder.{parted, found_there}
use Rattle.mlk_walk_state.proofs.points.place_of.Goals as goal

pub returns : goal.returns
returns c =
    let point = c.partition_point.ensures.partitioned (is_before c.args.line c.args.round)
    (always_returns_same _ _ _ (λ a r f k. search (rules, of_calls))) (parted c.args.line c.args.round c.args.points.now c.requires) in
    found_there c.args.line c.args.round c.args.points.now c.partition_point.result c.requires point
