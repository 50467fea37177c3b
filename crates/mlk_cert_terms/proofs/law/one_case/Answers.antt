use Rattle.mlk_cert_terms.proofs.Laws.{one-case}
use Rattle.mlk_cert_terms.proofs.law.one_case.Goals as goal

pub returns : goal.returns
returns c = one-case
