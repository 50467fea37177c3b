-- The canonical text of a literal as a function of the literal, for definitions that read texts. A law (`GivesCanonical`)
-- says that it is that of `IsCanonical`.
use Rattle.std.specs.Prelude.{ℕ, ◌+◌, ◌&&◌, nat_le, nat_lt, if◌then◌else◌, Bool, List, ◌++◌, length, Option, Some, None, take, drop}
use Rattle.mlk_text.specs.Lexemes.{digits, zeros, to_last, are_digits}
use Rattle.mlk_numbers.specs.Numbers.{pointed, after_point}

-- exact digits before and after a point, as a test
abbrev pub are_exact : List ℕ → List ℕ → Bool
are_exact before after = nat_le (length before) 25 && nat_le (length after) 25
    && nat_le (to_last (before ++ after)) (zeros (before ++ after) + 15)

abbrev pub canonical_by : List ℕ → Option (List ℕ) → Option (List ℕ)
canonical_by before None = None
canonical_by before (Some after) =
    if are_digits after && nat_lt 0 (length before + length after) && are_exact before after
    then Some (pointed (drop (zeros before) before) (take (to_last after) after)) else None

-- none if the text is not an exact literal
unfoldable pub canonical_text : List ℕ → Option (List ℕ)
canonical_text literal = canonical_by (take (digits literal) literal) (after_point (drop (digits literal) literal))
