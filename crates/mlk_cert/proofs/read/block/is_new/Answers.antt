use Rattle.std.proofs.Common.{◌∙◌, ap, map, not}
use Rattle.mlk_cert_parts.specs.Checks.{has_text}
use Rattle.mlk_cert.proofs.BlockLoops.{seen-text}
use Rattle.mlk_cert.proofs.read.block.is_new.Goals as goal

pub returns-clause-new : goal.returns-clause-new
returns-clause-new c = c.in_ok-new.ensures.added ∙ ap not (seen-text c.args.seen.now.keys c.in_ok-key.key) ∙ ap (λ z. not (has_text (map (λ k. k.items) c.args.seen.now.keys) z)) (c.in_ok-key.ensures.items ∙ c.as_bytes.ensures)
