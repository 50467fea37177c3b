-- What a comparison with known faults says, by numbers. Which faults are known is not said here. This project's own choice.
use Rattle.std.specs.Prelude.{ℕ, ◌≡◌, ◌+◌, ◌<◌, ◌≤◌, List, [], ◌∷◌, length}
use Rattle.mlk_baseline.specs.declared.baseline.Comparison.{Comparison}

-- the numbers ascend, from `low` on, and are below `bound`
abbrev pub Ascend : ℕ → ℕ → List ℕ → Type 0
Ascend low bound [] = Unit {0}
Ascend low bound (n ∷ ns) = (low ≤ n) × (n < bound) × Ascend (n + 1) bound ns

-- Of this number of faults those with the numbers in `news` are new, each once and in order, and all others are known.
pub record IsComparison (faults : ℕ) (comparison : Comparison) : Type 0 where
  pub news : Ascend 0 faults comparison.news.items
  pub known : comparison.known + length comparison.news.items ≡ faults
