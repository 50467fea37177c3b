-- Numeric literals, the numbers that they denote, and the unique text of each number.
use Rattle.std.specs.Prelude.{ℕ, ◌≡◌, ◌≢◌, ◌≤◌, ◌<◌, ◌+◌, ◌-◌, ◌*◌, ◌%◌, ◌^◌, ◌⊎◌, true, Option, Some}
use Rattle.std.specs.Prelude.{None, ◌==◌, if◌then◌else◌, List, [], ◌∷◌, ◌++◌, length, get_or, replicate}
use Rattle.mlk_text.specs.Lexemes.{are_digits}

-- the whole number that digits denote: each is multiplied by the power of ten of its place
abbrev pub number_of_digits : List ℕ → ℕ
number_of_digits [] = 0
number_of_digits (d ∷ ds) = (d - 48) * 10 ^ length ds + number_of_digits ds

-- A numeric literal with the given digits before and after its point, as `5`, `5.`, `.5` and `5.2`. Standard: numeric
-- literals, without an exponent.
pub record IsNumeral (before after text : List ℕ) : Type 0 where
  pub whole_part : are_digits before ≡ true
  pub fraction : are_digits after ≡ true
  pub some_digit : 0 < length before + length after
  pub spelled : ((text ≡ before) × (after ≡ [])) ⊎ (text ≡ before ++ 46 ∷ after)

-- Zeros, then at most the given number of digits, then zeros.
abbrev pub HasSignificant : ℕ → List ℕ → Type 0
HasSignificant most ds = (leading trailing : ℕ) × (digits : List ℕ)
    × (ds ≡ replicate leading 48 ++ (digits ++ replicate trailing 48)) × (length digits ≤ most)

-- Whether every system represents these digits exactly: at most 25 on either side of the point, and at most 15 from the first to
-- the last nonzero one. This project's own choice.
pub record IsExact (before after : List ℕ) : Type 0 where
  pub few_before : length before ≤ 25
  pub few_after : length after ≤ 25
  pub significant : HasSignificant 15 (before ++ after)

-- m / 10^k and n / 10^j are equal
abbrev pub IsEqual : ℕ → ℕ → ℕ → ℕ → Type 0
IsEqual m k n j = m * 10 ^ j ≡ n * 10 ^ k

-- m / 10^k is in lowest terms
abbrev pub IsLowest : ℕ → ℕ → Type 0
IsLowest m k = (k ≡ 0) ⊎ (m % 10 ≢ 0)

-- the digits before and after the point joined: no point without a fraction, `0` for no digits at all
abbrev pub pointed : List ℕ → List ℕ → List ℕ
pointed [] [] = 48 ∷ []
pointed (d ∷ ds) [] = d ∷ ds
pointed before (d ∷ ds) = before ++ 46 ∷ d ∷ ds

-- The text of m / 10^k: k digits after the point, and no leading zero before it. Standard: numeric interpretation of data, the
-- form of numbers as values.
pub record IsTextOf (m k : ℕ) (text : List ℕ) : Type 0 where
  pub before : List ℕ
  pub after : List ℕ
  pub whole_part : are_digits before ≡ true
  pub fraction : are_digits after ≡ true
  pub no_leading_zero : get_or before 0 0 ≢ 48
  pub places : length after ≡ k
  pub number : number_of_digits (before ++ after) ≡ m
  pub spelled : text ≡ pointed before after

-- The canonical text of an exact literal: that of the number that it denotes, in lowest terms. Standard: numeric literals,
-- canonic numeric values.
pub record IsCanonical (literal text : List ℕ) : Type 0 where
  pub before : List ℕ
  pub after : List ℕ
  pub numerator : ℕ
  pub places : ℕ
  pub numeral : IsNumeral before after literal
  pub exact : IsExact before after
  pub lowest : IsLowest numerator places
  pub equal : IsEqual numerator places (number_of_digits (before ++ after)) (length after)
  pub spelled : IsTextOf numerator places text

-- the rest after the digits at the front: nothing, or a point and the fraction
abbrev pub after_point : List ℕ → Option (List ℕ)
after_point [] = Some []
after_point (b ∷ bs) = if b == 46 then Some bs else None
