use Rattle.std.proofs.Common.{◌≡◌, ◌+◌, length}
use Rattle.mlk_cert.specs.Making.{before}
use Rattle.mlk_cert.proofs.checked.place_of.Given as goal

abbrev pub invariant-loop-first : goal.invariant-loop-first
invariant-loop-first l = (l.place + before l.left l.fn.text ≡ before l.fn.cases l.fn.text) × (l.place + length l.left ≡ length l.fn.cases)

abbrev pub decreases-loop-first : goal.decreases-loop-first
decreases-loop-first l = length l.left
