use Rattle.std.proofs.Common.{◌≡◌, ◌&&◌, ℕ, length}
use Rattle.mlk_calls.specs.Claims.{all_ranked_below}
use Rattle.mlk_calls.specs.Ranks.{is_above}
use Rattle.mlk_calls.proofs.claim.highest_of.Given as goal

abbrev pub invariant-loop-term : goal.invariant-loop-term
invariant-loop-term l =
    (k : ℕ) → (is_above l.highest k && all_ranked_below l.rules.families l.left k) ≡ all_ranked_below l.rules.families l.held k

abbrev pub decreases-loop-term : goal.decreases-loop-term
decreases-loop-term l = length l.left
