use Rattle.std.proofs.Common.{◌∙◌, ap}
use Rattle.std.proofs.lemmas.Result.{err_from_is_err_and}
use Rattle.mlk_cert_parts.specs.Texts.{certificate_text}
use Rattle.mlk_cert.proofs.BothFormats.{unspelled}
use Rattle.mlk_cert.proofs.spelled.spell.Goals as goal

pub returns-in_err-certificate-clause-refused : goal.returns-in_err-certificate-clause-refused
returns-in_err-certificate-clause-refused c =
    let p = err_from_is_err_and c.from_residual-in_err-certificate.result c.from_residual-in_err-certificate.ensures.1 in
    let text = c.as_slice-2.ensures.value ∙ c.into_bytes-text.ensures ∙ c.in_ok-certificate_text.ensures ∙ ap certificate_text c.as_slice.ensures.value in
    rw (p.1, p.2) (unspelled c.args.made.items c.as_slice-2.result.now c.in_err-certificate.field-0.0 text c.in_err-certificate.ensures.back c.in_err-certificate.ensures.place)
