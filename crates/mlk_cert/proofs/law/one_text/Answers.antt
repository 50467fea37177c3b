use Rattle.mlk_cert.proofs.BothFormats.{one-text}
use Rattle.mlk_cert.proofs.law.one_text.Goals as goal

pub returns : goal.returns
returns c = one-text
