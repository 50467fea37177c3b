-- The contracts of reading and writing certificates.
use Rattle.std.specs.Prelude.{ℕ, ◌≡◌, ◌≤◌, List, Result, Ok, Err, length}
use Rattle.mlk_text.specs.declared.failure.Failure.{Failure}
use Rattle.mlk_text.specs.declared.failure.Failure.TheVariants.{OutOfMemory, Refused}
use Rattle.mlk_cert_parts.specs.declared.block.EntryCert.{EntryCert}
use Rattle.mlk_cert_parts.specs.Texts.{certificate_text}
use Rattle.mlk_cert.specs.declared.read.fault.CertFault.{CertFault}
use Rattle.mlk_cert.specs.declared.format.CertFormat.{CertFormat}
use Rattle.mlk_cert.specs.declared.format.CertFormat.TheVariants.{First, Second}
use Rattle.mlk_cert_parts.specs.Limits.{IsCertificate, longest}
use Rattle.mlk_cert.specs.Second.{IsSecondText}

-- the text is that of these blocks in this format
abbrev pub IsTextIn : CertFormat → List EntryCert → List ℕ → Type 0
IsTextIn First blocks text = text ≡ certificate_text blocks
IsTextIn Second blocks text = IsSecondText blocks text

-- The text is that of these blocks, which are a certificate, in one of the two formats; it has at most 64 MiB.
pub record Spells (blocks : List EntryCert) (bytes : List ℕ) : Type 0 where
  pub is : IsCertificate blocks
  pub format : CertFormat
  pub text : IsTextIn format blocks bytes
  pub short : length bytes ≤ longest

-- A text in the first format is that of at most one certificate.
abbrev pub OneCertificate : Type 0
OneCertificate = (blocks others : List EntryCert) → IsCertificate blocks → IsCertificate others
    → certificate_text blocks ≡ certificate_text others → blocks ≡ others

-- A text that is short enough is that of at most one certificate, in either format.
abbrev pub OneReading : Type 0
OneReading = (blocks others : List EntryCert) (text : List ℕ) → Spells blocks text → Spells others text → blocks ≡ others

-- A certificate has at most one text in each format.
abbrev pub OneText : Type 0
OneText = (format : CertFormat) (blocks : List EntryCert) (text other : List ℕ)
    → IsTextIn format blocks text → IsTextIn format blocks other → text ≡ other

-- these blocks are returned; out of memory says nothing
abbrev pub ComesBack : List EntryCert → Result (List EntryCert) (Failure CertFault) → Type 0
ComesBack blocks (Ok found) = found ≡ blocks
ComesBack blocks (Err OutOfMemory) = Unit {0}
ComesBack blocks (Err (Refused fault)) = ⊥

-- the promise of reading a text: a certificate that has it is returned
abbrev pub IsReading : List ℕ → Result (List EntryCert) (Failure CertFault) → Type 0
IsReading text answer = (blocks : List EntryCert) → Spells blocks text → ComesBack blocks answer

-- A text of a certificate in either format, if it is short enough to be written, is read as that certificate.
abbrev pub ReadBack : Type 0
ReadBack = (format : CertFormat) (blocks : List EntryCert) (text : List ℕ)
    (answer : Result (List EntryCert) (Failure CertFault)) → IsCertificate blocks → IsTextIn format blocks text
    → length text ≤ longest → IsReading text answer → ComesBack blocks answer
