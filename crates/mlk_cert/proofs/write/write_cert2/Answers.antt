use Rattle.std.proofs.Common.{◌∙◌, ap, refl, sym, subst}
use Rattle.mlk_cert.specs.Named.{texts_in}
use Rattle.mlk_cert.specs.Second.{AreCases}
use Rattle.mlk_cert.proofs.WrittenTexts.{many-cases, length-texts}
use Rattle.mlk_cert.proofs.write.write_cert2.Goals as goal

pub returns-then-len-gt-LONGEST_TEXT-clause-refused : goal.returns-then-len-gt-LONGEST_TEXT-clause-refused
returns-then-len-gt-LONGEST_TEXT-clause-refused g c =
    let texts = texts_in c.in_ok-texts.texts.keys in
    let are = subst (λ z. AreCases z texts) c.blocks-2.ensures.blocks c.in_ok-texts.ensures in (
      many-cases c.args.certificate.now texts c.len.result are (c.len.ensures.len ∙ sym (length-texts c.in_ok-texts.texts.keys)) c.if-len-gt-LONGEST_TEXT.true,
      (ap (λ z. z.code) c.at_first.ensures, (ap (λ z. z.line) c.at_first.ensures, refl)),
    )
