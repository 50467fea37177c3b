use Rattle.mlk_cert.proofs.BothFormats.{read-back}
use Rattle.mlk_cert.proofs.law.read_back.Goals as goal

pub returns : goal.returns
returns c = read-back
