use Rattle.mlk_cert_terms.proofs.Laws.{equal-numbers}
use Rattle.mlk_cert_terms.proofs.law.equal_numbers.Goals as goal

pub returns : goal.returns
returns c = equal-numbers c.args.table.now c.len.ensures.once
