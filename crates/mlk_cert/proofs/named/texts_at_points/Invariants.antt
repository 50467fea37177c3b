use Rattle.std.proofs.Common.{◌≡◌, ℕ, List, length}
use Rattle.std.specs.Prelude.{◌||◌}
use Rattle.mlk_cert_parts.specs.Checks.{has_text}
use Rattle.mlk_cert.specs.Second.{cases_of_blocks}
use Rattle.mlk_cert.specs.Named.{texts_in}
use Rattle.mlk_cert.proofs.named.texts_at_points.Given as goal

abbrev pub invariant-loop-first : goal.invariant-loop-first
invariant-loop-first l = (t : List ℕ) → (has_text (texts_in l.texts.keys) t || has_text (cases_of_blocks l.left) t) ≡ has_text (cases_of_blocks l.blocks) t

abbrev pub decreases-loop-first : goal.decreases-loop-first
decreases-loop-first l = length l.left
