use Rattle.std.proofs.Common.{subst}
use Rattle.mlk_walk_state.specs.Ends.{IsEnd}
use Rattle.mlk_walk_state.proofs.PointEnds.{end_later}
use Rattle.mlk_walk_state.proofs.points.from_line.Goals as goal

pub loop-point-preserved : goal.loop-point-preserved
loop-point-preserved c =
    end_later c.args.points.now c.in-Some.point.now c.in-Some.others.now
    (subst (λ z. IsEnd c.args.points.now z) c.in-Some.ensures.cases.0 c.loop-point.invariant)
