use Rattle.std.proofs.Common.{◌∙◌}
use Rattle.mlk_cert_parts.specs.Texts.{case_text}
use Rattle.mlk_cert.proofs.NamedTexts.{inserted}
use Rattle.mlk_cert.proofs.named.note_case.Goals as goal

pub returns : goal.returns
returns c = λ t. inserted c.args.texts.now.keys c.insert.new.self.keys c.into_bytes.result (case_text c.args.case.now) (c.into_bytes.ensures ∙ c.in_ok-text.ensures) c.in_ok-insert.ensures.keys t
