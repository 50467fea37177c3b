-- What is refused of the text of a certificate.
use Rattle.std.proofs.Common.{ℕ, List, Err, inl}
use Rattle.mlk_text.specs.declared.failure.Failure.{Failure}
use Rattle.mlk_text.specs.declared.failure.Failure.TheVariants as failure
use Rattle.mlk_cert.specs.declared.format.CertFormat.{CertFormat}
use Rattle.mlk_cert.specs.declared.read.fault.CertFault.{CertFault}
use Rattle.mlk_cert.specs.Theorem.{IsReading}
use Rattle.mlk_cert.specs.Refusals.{IsPlaced}
use Rattle.mlk_outcome.specs.Conversion.{IsUnconverted}

-- a text that no certificate has is not converted
pub unread : (format : CertFormat) (given : List ℕ) (e : Failure CertFault) → IsReading given (Err e) → IsPlaced given e → IsUnconverted format given e
unread format given failure.OutOfMemory back place = record {}
unread format given (failure.Refused fault) back place = inl (back, place)
