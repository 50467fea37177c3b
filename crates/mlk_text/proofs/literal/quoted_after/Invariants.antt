use Rattle.std.proofs.Common.{◌≡◌, length}
use Rattle.mlk_text.specs.Lexemes.{inside}
use Rattle.mlk_text.specs.Reading.{put}
use Rattle.mlk_text.proofs.literal.quoted_after.Given as goal

abbrev pub invariant-loop-first : goal.invariant-loop-first
invariant-loop-first l = put l.value.items (inside l.rest) ≡ put l.before (inside l.bytes)

abbrev pub decreases-loop-first : goal.decreases-loop-first
decreases-loop-first l = length l.rest
