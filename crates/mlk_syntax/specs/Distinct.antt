-- Lists of names without duplicates. This project's own.
use Rattle.std.specs.Prelude.{ℕ, List, [], ◌∷◌, Contains}

-- No two are equal.
abbrev pub AreDistinct : List (List ℕ) → Type 0
AreDistinct [] = Unit {0}
AreDistinct (n ∷ names) = (Contains names n → ⊥) × AreDistinct names
