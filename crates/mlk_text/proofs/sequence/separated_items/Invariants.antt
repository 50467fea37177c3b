use Rattle.std.proofs.Common.{◌≡◌, ◌<◌, ℕ, length}
use Rattle.mlk_text.specs.Reading.{put, many, separated}
use Rattle.mlk_text.proofs.sequence.separated_items.Given as goal

abbrev pub invariant-loop-next : goal.invariant-loop-next
invariant-loop-next g l =
    (n : ℕ) × (length l.rest < n)
    × (put l.found.items (many (g.R.Items.separator_at l.items) (λ _. g.R.Items.item_at l.items) n l.rest) ≡ separated (g.R.Items.separator_at l.items) (g.R.Items.item_at l.items) l.bytes)

abbrev pub decreases-loop-next : goal.decreases-loop-next
decreases-loop-next g l = length l.rest
