use Rattle.mlk_cert.proofs.BothFormats.{one-reading}
use Rattle.mlk_cert.proofs.law.one_reading.Goals as goal

pub returns : goal.returns
returns c = one-reading
