use Rattle.std.proofs.Common.{subst}
use Rattle.mlk_cert_terms.specs.Numbered.{EachOnce}
use Rattle.mlk_cert_terms.proofs.Tables.{each-once}
use Rattle.mlk_cert_terms.proofs.table.TermTable.len.Goals as goal

pub returns-clause-once : goal.returns-clause-once
returns-clause-once c = subst EachOnce c.self.view_is (each-once c.self.inside.terms.keys c.len.ensures.unique)
