-- What is written of a certificate, and why a certificate is not written.
use Rattle.std.specs.Prelude.{ℕ, ◌<◌, ◌≤◌, ◌≡◌, List, Option, length}
use Rattle.std.specs.Io.KnownBytes.{Appends}
use Rattle.mlk_text.specs.declared.code.Code.TheVariants.{CertLimit}
use Rattle.mlk_text.specs.declared.failure.Failure.{Failure}
use Rattle.mlk_text.specs.declared.failure.Failure.TheVariants.{OutOfMemory, Refused}
use Rattle.mlk_cert_parts.specs.declared.block.EntryCert.{EntryCert}
use Rattle.mlk_cert.specs.declared.write.WriteFault.{WriteFault}
use Rattle.mlk_cert.specs.declared.write.WriteFault.TheVariants.{TooLong, Io}
use Rattle.mlk_cert_parts.specs.Limits.{longest}
use Rattle.mlk_cert_parts.specs.Texts.{certificate_text}
use Rattle.mlk_cert.specs.declared.format.CertFormat.{CertFormat}
use Rattle.mlk_cert.specs.Theorem.{Spells, IsTextIn}
use Rattle.mlk_cert.specs.Refusals.{IsRefusal}
use Rattle.mlk_cert.specs.declared.read.fault.CertFault.{CertFault}

-- All of the text in this format was written; it is not too long.
pub record IsWritten (format : CertFormat) (blocks : List EntryCert) (old new : Option (List ℕ)) : Type 0 where
  pub text : List ℕ
  pub is : IsTextIn format blocks text
  pub short : length text ≤ longest
  pub added : Appends old new text

-- the text in this format is too long
abbrev pub IsTooLong : CertFormat → List EntryCert → Type 0
IsTooLong format blocks = (text : List ℕ) × IsTextIn format blocks text × (longest < length text)

-- the text in this format is not too long
abbrev pub IsShort : CertFormat → List EntryCert → Type 0
IsShort format blocks = (text : List ℕ) × IsTextIn format blocks text × (length text ≤ longest)

-- why a text was not written
abbrev pub IsTextUnwritten : {W : Type 0} → List ℕ → W → W → Failure WriteFault → Type 0
IsTextUnwritten text old new OutOfMemory = new ≡ old
IsTextUnwritten text old new (Refused (TooLong fault)) =
    (longest < length text) × ((fault.code ≡ CertLimit) × ((fault.line ≡ 1) × (new ≡ old)))
IsTextUnwritten text old new (Refused (Io e)) = length text ≤ longest

-- Its text is too long, which is a limit at line 1, and the writer is unchanged; or the writer has an error, which only it
-- describes.
abbrev pub IsUnwritten : {W : Type 0} → CertFormat → List EntryCert → W → W → Failure WriteFault → Type 0
IsUnwritten format blocks old new OutOfMemory = new ≡ old
IsUnwritten format blocks old new (Refused (TooLong fault)) =
    IsTooLong format blocks × ((fault.code ≡ CertLimit) × ((fault.line ≡ 1) × (new ≡ old)))
IsUnwritten format blocks old new (Refused (Io e)) = IsShort format blocks

-- Why blocks and their text are not a certificate and its text: the fault that is reported for the text. Out of memory says
-- nothing.
abbrev pub IsUnspelled : List EntryCert → Failure CertFault → Type 0
IsUnspelled blocks OutOfMemory = Unit {0}
IsUnspelled blocks (Refused fault) = (Spells blocks (certificate_text blocks) → ⊥) × IsRefusal (certificate_text blocks) fault
