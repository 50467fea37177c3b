use Rattle.mlk_cert.proofs.BothFormats.{one-certificate}
use Rattle.mlk_cert.proofs.law.one_certificate.Goals as goal

pub returns : goal.returns
returns c = one-certificate
