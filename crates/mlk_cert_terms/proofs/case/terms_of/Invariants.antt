use Rattle.std.proofs.Common.{◌≡◌, true, length}
use Rattle.mlk_cert_lexemes.specs.Lists.{ascends}
use Rattle.mlk_cert_lexemes.specs.Kinds.{terms_upto}
use Rattle.mlk_cert_terms.proofs.Tables.{Await}
use Rattle.mlk_cert_terms.proofs.case.terms_of.Given as goal

abbrev pub invariant-loop-number : goal.invariant-loop-number
invariant-loop-number l = (ascends terms_upto l.terms.items ≡ true) × Await l.fn.table l.terms.items l.left l.fn.numbers

abbrev pub decreases-loop-number : goal.decreases-loop-number
decreases-loop-number l = length l.left
