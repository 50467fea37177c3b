-- What a certificate is in another format. This project's own choice.
use Rattle.std.specs.Prelude.{◌⊎◌, ℕ, List}
use Rattle.mlk_text.specs.declared.failure.Failure.{Failure}
use Rattle.mlk_text.specs.declared.failure.Failure.TheVariants as failure
use Rattle.mlk_cert.specs.declared.format.CertFormat.{CertFormat}
use Rattle.mlk_cert.specs.declared.read.fault.CertFault.{CertFault}
use Rattle.mlk_make.specs.Texts.{SpellsIn, IsPastLimit}
use Rattle.mlk_cert_parts.specs.declared.block.EntryCert.{EntryCert}
use Rattle.mlk_cert.specs.Theorem.{Spells}
use Rattle.mlk_pool.specs.Headline.{NoCertificate}

-- the one text in this format of the certificate that a text spells
abbrev pub IsConverted : CertFormat → List ℕ → List ℕ → Type 0
IsConverted format given text = (blocks : List EntryCert) × Spells blocks given × SpellsIn format blocks text

-- Why there is none: no certificate has the text that is given, or that of its certificate in this format is too long, which
-- is a limit at its first line. If memory runs out, nothing is said.
abbrev pub IsUnconverted : CertFormat → List ℕ → Failure CertFault → Type 0
IsUnconverted format given failure.OutOfMemory = Unit {0}
IsUnconverted format given (failure.Refused fault) =
    NoCertificate given fault ⊎ ((blocks : List EntryCert) × Spells blocks given × IsPastLimit format blocks (failure.Refused fault))
