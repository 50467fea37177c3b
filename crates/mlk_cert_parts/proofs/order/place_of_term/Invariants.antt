use Rattle.std.proofs.Common.{◌≡◌, ◌+◌, length}
use Rattle.mlk_cert_parts.specs.TermOrder.{terms_before}
use Rattle.mlk_cert_parts.proofs.order.place_of_term.Given as goal

abbrev pub invariant-loop-first : goal.invariant-loop-first
invariant-loop-first l = (l.place + terms_before l.left l.fn.term ≡ terms_before l.fn.terms l.fn.term) × (l.place + length l.left ≡ length l.fn.terms)

abbrev pub decreases-loop-first : goal.decreases-loop-first
decreases-loop-first l = length l.left
