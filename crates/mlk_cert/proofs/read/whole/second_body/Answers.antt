use Rattle.std.proofs.Common.{◌∙◌, ap, map}
use Rattle.mlk_cert_lexemes.specs.Lists.{ascends, below}
use Rattle.mlk_cert_parts.specs.Texts.{case_text}
use Rattle.mlk_cert.proofs.NumberedFormats.{table-is}
use Rattle.mlk_cert.proofs.read.whole.second_body.Goals as goal

pub all_named-requires-clause-order : goal.all_named-requires-clause-order
all_named-requires-clause-order c = ap (λ z. ascends below (map case_text z)) c.as_slice-2.ensures.value ∙ (table-is c.in_ok-found.found.items c.args.bytes.now c.in_ok-found.rest.now c.in_ok-found.ensures).2
