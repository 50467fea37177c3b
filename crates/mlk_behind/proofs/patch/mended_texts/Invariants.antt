use Rattle.std.proofs.Common.{ℕ, ◌≡◌, ◌<◌, length, map, get_or, []}
use Rattle.mlk_behind.specs.Mending.{IsPatched, DiffersOnlyAt}
use Rattle.mlk_behind.proofs.patch.mended_texts.Given as goal

abbrev pub invariant-loop-routine : goal.invariant-loop-routine
invariant-loop-routine l =
    (length (map (λ t. t.items) l.mended.items) ≡ l.routine)
    × ((r : ℕ) → r < l.routine → DiffersOnlyAt (IsPatched l.patches r) (get_or (map (λ t. t.items) l.texts) r []) (get_or (map (λ t. t.items) l.mended.items) r []))
