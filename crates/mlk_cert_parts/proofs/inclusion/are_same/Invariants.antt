use Rattle.std.proofs.Common.{◌≡◌, length}
use Rattle.std.specs.Prelude.{bytes_eq}
use Rattle.std.specs.Cmp.Lexicographic.{pointwise}
use Rattle.mlk_cert_parts.proofs.inclusion.are_same.Given as goal

abbrev pub invariant-loop-name : goal.invariant-loop-name
invariant-loop-name l = pointwise bytes_eq l.left l.left_others ≡ pointwise bytes_eq l.fn.names l.fn.others

abbrev pub decreases-loop-name : goal.decreases-loop-name
decreases-loop-name l = length l.left
