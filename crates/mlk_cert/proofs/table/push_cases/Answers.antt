use Rattle.std.proofs.Common.{◌∙◌, ◌++◌, ◌∷◌, ◌+◌, ap}
use Rattle.std.specs.Prelude.{codes}
use Rattle.std.specs.Fmt.{decimal}
use Rattle.mlk_cert_lexemes.specs.Texts.{line}
use Rattle.mlk_cert.proofs.WrittenTexts.{cases-step, got-within}
use Rattle.mlk_cert.proofs.table.push_cases.Goals as goal

pub loop-found-preserved : goal.loop-found-preserved
loop-found-preserved c =
    let made = c.in_ok-push_numbered.ensures ∙ ap (λ z. c.loop-found.text ++ line (codes "case ") (decimal (c.loop-found.place + 1) ++ 32 ∷ z)) c.as_slice.ensures.value in (
      cases-step c.loop-found.text c.push_numbered.new.text _ c.args.texts.now.keys c.loop-found.place c.in-Some.found.now c.in-Some.ensures.key made c.loop-found.invariant.0,
      got-within c.args.texts.now.keys c.loop-found.place c.in-Some.found.now c.in-Some.ensures.key,
    )
