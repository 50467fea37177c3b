-- The text of a certificate in a format. This project's own choice.
use Rattle.std.specs.Prelude.{ℕ, ◌≡◌, ◌≤◌, List, length}
use Rattle.mlk_text.specs.declared.code.Code.TheVariants.{CertLimit}
use Rattle.mlk_text.specs.declared.failure.Failure.{Failure}
use Rattle.mlk_text.specs.declared.failure.Failure.TheVariants as failure
use Rattle.mlk_cert_parts.specs.declared.block.EntryCert.{EntryCert}
use Rattle.mlk_cert_parts.specs.Limits.{longest}
use Rattle.mlk_cert.specs.declared.format.CertFormat.{CertFormat}
use Rattle.mlk_cert.specs.declared.read.fault.CertFault.{CertFault}
use Rattle.mlk_cert.specs.Theorem.{Spells, IsTextIn}
use Rattle.mlk_cert.specs.Writing.{IsTooLong}

-- The text is that of these blocks, which are a certificate, in this format; it has at most 64 MiB.
abbrev pub SpellsIn : CertFormat → List EntryCert → List ℕ → Type 0
SpellsIn format blocks text = Spells blocks text × IsTextIn format blocks text

-- the text is that of these blocks in this format, and has at most 64 MiB
abbrev pub IsShortText : CertFormat → List EntryCert → List ℕ → Type 0
IsShortText format blocks text = IsTextIn format blocks text × (length text ≤ longest)

-- The text in this format is too long, which is a limit at its first line. Want of memory says nothing.
abbrev pub IsPastLimit : CertFormat → List EntryCert → Failure CertFault → Type 0
IsPastLimit format blocks failure.OutOfMemory = Unit {0}
IsPastLimit format blocks (failure.Refused fault) = IsTooLong format blocks × (fault.code ≡ CertLimit) × (fault.line ≡ 1)
