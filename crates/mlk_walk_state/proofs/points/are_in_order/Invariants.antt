use Rattle.std.proofs.Common.{◌≡◌, ◌∷◌, drop}
use Rattle.mlk_cert_lexemes.specs.Lists.{ascends}
use Rattle.mlk_cert_parts.specs.Limits.{points_below}
use Rattle.mlk_walk_state.proofs.points.are_in_order.Given as goal

abbrev pub invariant-loop-point : goal.invariant-loop-point
invariant-loop-point l = ascends points_below (l.last ∷ drop l.point-index l.others) ≡ ascends points_below l.points
