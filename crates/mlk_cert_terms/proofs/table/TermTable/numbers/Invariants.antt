use Rattle.std.proofs.Common.{length}
use Rattle.mlk_cert_terms.specs.Numbered.{Grows, AreNumbers}
use Rattle.mlk_cert_terms.proofs.Tables.{Remain}
use Rattle.mlk_cert_terms.proofs.table.TermTable.numbers.Given as goal

abbrev pub invariant-loop-term : goal.invariant-loop-term
invariant-loop-term l = Grows l.fn.self l.self × AreNumbers l.self l.found.items × Remain l.self l.found.items l.left l.fn.terms

abbrev pub decreases-loop-term : goal.decreases-loop-term
decreases-loop-term l = length l.left
