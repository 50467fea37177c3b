use Rattle.mlk_cert_terms.proofs.Laws.{grown-tables}
use Rattle.mlk_cert_terms.proofs.law.table_grows.Goals as goal

pub returns : goal.returns
returns c = grown-tables
