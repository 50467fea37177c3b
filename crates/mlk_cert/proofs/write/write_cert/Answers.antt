use Rattle.std.proofs.Common.{◌∙◌, ap}
use Rattle.mlk_cert_parts.specs.Texts.{certificate_text}
use Rattle.mlk_cert.specs.declared.format.CertFormat.TheVariants.{First}
use Rattle.mlk_cert.proofs.WrittenTexts.{written}
use Rattle.mlk_cert.proofs.write.write_cert.Goals as goal

pub returns-clause-written : goal.returns-clause-written
returns-clause-written g c =
    written c.write_text.result First c.args.certificate.now _ _ c.as_bytes.result.now (c.as_bytes.ensures ∙ c.in_ok-text.ensures ∙ ap certificate_text c.blocks-2.ensures.blocks) c.write_text.ensures.written c.write_text.ensures.short
