-- A certificate that is not read: no certificate has its text, and the fault has its place.
use Rattle.std.proofs.Common.{ℕ, List, Err}
use Rattle.mlk_text.specs.declared.failure.Failure.{Failure}
use Rattle.mlk_text.specs.declared.failure.Failure.TheVariants.{OutOfMemory, Refused}
use Rattle.mlk_text.specs.Failures.{IfRefused}
use Rattle.mlk_cert.specs.declared.read.fault.CertFault.{CertFault}
use Rattle.mlk_cert.specs.Refusals.{IsPlaced}
use Rattle.mlk_cert.specs.Theorem.{IsReading}
use Rattle.mlk_pool.specs.Headline.{NoCertificate}

pub unread : (cert_text : List ℕ) (e : Failure CertFault) → IsReading cert_text (Err e) → IsPlaced cert_text e → IfRefused e (NoCertificate cert_text)
unread cert_text OutOfMemory reads placed = tt
unread cert_text (Refused fault) reads placed = (reads, placed)
