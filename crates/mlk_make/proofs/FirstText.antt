-- A certificate that is read of a text in the first format has that text.
use Rattle.std.proofs.Common.{◌≡◌, ◌∙◌, ◌++◌, ℕ, List, ap}
use Rattle.mlk_cert_lexemes.specs.Lists.{flat}
use Rattle.mlk_cert_parts.specs.declared.block.EntryCert.{EntryCert}
use Rattle.mlk_cert_parts.specs.Texts.{head_line, end_line, block_text, certificate_text}
use Rattle.mlk_cert.specs.declared.format.CertFormat.TheVariants.{First}
use Rattle.mlk_cert.specs.Numbered.{head_at}
use Rattle.mlk_cert.specs.Theorem.{Spells}
use Rattle.mlk_cert.proofs.Whole.{head-back, body-is}
use Rattle.mlk_cert.proofs.BothFormats.{text-read}
use Rattle.mlk_make.specs.Texts.{SpellsIn}

pub first_text : (blocks made : List EntryCert) (text : List ℕ) → Spells blocks text → text ≡ certificate_text made → SpellsIn First blocks text
first_text blocks made text spelled is =
    let rest : List ℕ = flat block_text made ++ end_line in
    let read = text-read First blocks text rest (ap head_at is ∙ head-back rest First) spelled in
    (spelled, is ∙ ap (λ r. head_line ++ r) (body-is blocks rest read).1)
