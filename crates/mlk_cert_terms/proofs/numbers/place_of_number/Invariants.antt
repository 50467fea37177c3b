use Rattle.std.proofs.Common.{◌≡◌, ◌+◌, length}
use Rattle.mlk_cert_terms.specs.Keys.{numbers_before}
use Rattle.mlk_cert_terms.proofs.numbers.place_of_number.Given as goal

abbrev pub invariant-loop-first : goal.invariant-loop-first
invariant-loop-first l = (l.place + numbers_before l.left l.fn.number ≡ numbers_before l.fn.numbers l.fn.number) × (l.place + length l.left ≡ length l.fn.numbers)

abbrev pub decreases-loop-first : goal.decreases-loop-first
decreases-loop-first l = length l.left
