use Rattle.std.proofs.Common.{◌≡◌, ◌<◌, ℕ, suc, length, List, ◌+◌, ◌*◌}
use Rattle.std.specs.Prelude.{nat_lt}
use Rattle.mlk_text.specs.Lexemes.{byte_at}
use Rattle.mlk_text.specs.Reading.{many, put}
use Rattle.mlk_expr_tokens.specs.Lexemes.{count_at}
use Rattle.mlk_expr.specs.Reading.{next, matcher_by, pattern_at}
use Rattle.mlk_expr.proofs.pattern.+patterns.Given as goal

abbrev pub decreases-pattern : goal.decreases-pattern
decreases-pattern l = 8 * l.left + 0

abbrev pub decreases-alternatives_rest : goal.decreases-alternatives_rest
decreases-alternatives_rest l = 8 * l.deeper + 1

abbrev pub decreases-alternatives : goal.decreases-alternatives
decreases-alternatives l = 8 * l.deeper + 2

abbrev pub decreases-matcher : goal.decreases-matcher
decreases-matcher l = 8 * l.deeper + 3

abbrev pub decreases-atoms : goal.decreases-atoms
decreases-atoms l = 8 * l.deeper + 4

abbrev pub invariant-atoms-loop-count : goal.invariant-atoms-loop-count
invariant-atoms-loop-count l =
    (front : List (List ℕ)) × (n : ℕ) × (l.found ≡ nat_lt 0 (length front)) × (length l.rest < n)
    × (put front (many count_at (matcher_by (pattern_at l.deeper)) n l.rest) ≡ many count_at (matcher_by (pattern_at l.deeper)) (suc (length l.bytes)) l.bytes)

abbrev pub decreases-atoms-loop-count : goal.decreases-atoms-loop-count
decreases-atoms-loop-count l = length l.rest

abbrev pub invariant-alternatives_rest-loop-after : goal.invariant-alternatives_rest-loop-after
invariant-alternatives_rest-loop-after l =
    (front : List (List ℕ)) × (n : ℕ) × (length l.rest < n)
    × (put front (many (byte_at 44) (next (pattern_at l.deeper)) n l.rest) ≡ many (byte_at 44) (next (pattern_at l.deeper)) (suc (length l.bytes)) l.bytes)

abbrev pub decreases-alternatives_rest-loop-after : goal.decreases-alternatives_rest-loop-after
decreases-alternatives_rest-loop-after l = length l.rest
