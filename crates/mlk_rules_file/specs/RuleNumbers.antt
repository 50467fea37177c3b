-- The numbers of a rule file. Restates ISO/IEC 11756, numeric literals without an exponent; that a number must be exact on every
-- system is this project's own choice.
use Rattle.std.specs.Prelude.{ℕ, suc, ◌+◌, ◌==◌, if◌then◌else◌, List, [], ◌∷◌, Option, Some, None, take, drop, bytes_eq}
use Rattle.mlk_text.specs.Reading.{with}
use Rattle.mlk_text.specs.Lexemes.{digits}
use Rattle.mlk_numbers.specs.Canonical.{canonical_text}

-- the length of a literal: digits, and a point with the digits after it
abbrev pub fraction_len : List ℕ → ℕ
fraction_len [] = 0
fraction_len (b ∷ xs) = if b == 46 then suc (digits xs) else 0

unfoldable pub numeral_len : List ℕ → ℕ
numeral_len xs = digits xs + fraction_len (drop (digits xs) xs)

-- the rest after a value
abbrev pub valued : List ℕ → Option (List ℕ) → Option (List ℕ × List ℕ)
valued ys None = None
valued ys (Some value) = Some (value, ys)

-- the value of the literal at the front, its canonical text
unfoldable pub literal_value_at : List ℕ → Option (List ℕ × List ℕ)
literal_value_at xs = valued (drop (numeral_len xs) xs) (canonical_text (take (numeral_len xs) xs))

-- the value of a number after a minus
abbrev pub negative : List ℕ → List ℕ
negative v = if bytes_eq v (48 ∷ []) then v else 45 ∷ v

abbrev pub negative_at : List ℕ → Option (List ℕ × List ℕ)
negative_at xs = with negative (literal_value_at xs)
