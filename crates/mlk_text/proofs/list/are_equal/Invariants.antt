use Rattle.std.proofs.Common.{◌≡◌, length}
use Rattle.std.specs.Cmp.Lexicographic.{pointwise}
use Rattle.mlk_text.proofs.list.are_equal.Given as goal

abbrev pub invariant-loop-item : goal.invariant-loop-item
invariant-loop-item g l = pointwise g.T.PartialEq.eq l.left l.left_others ≡ pointwise g.T.PartialEq.eq l.fn.items l.fn.others

abbrev pub decreases-loop-item : goal.decreases-loop-item
decreases-loop-item g l = length l.left
