-- Laws of numbers, their texts and exact literals.
use Rattle.std.specs.Prelude.{ℕ, ◌≡◌, ◌↔◌, ◌<◌, ◌^◌, true, ℤ, unsigned_abs, List, length, Some}
use Rattle.std.specs.Fmt.{signed_decimal}
use Rattle.mlk_text.specs.Lexemes.{is_exact, canonical, are_digits}
use Rattle.mlk_numbers.specs.Numbers.{IsEqual, IsLowest, IsTextOf, IsNumeral, IsExact, IsCanonical}
use Rattle.mlk_numbers.specs.Canonical.{canonical_text}
use Rattle.mlk_numbers.specs.Folding.{IsWhole, IsFold, IsUnaryFold}
use Rattle.mlk_numbers.specs.Operators.{fold_between, fold_before}
use Rattle.mlk_text.specs.declared.operator.Op.{Op}
use Rattle.mlk_text.specs.declared.operator.UnaryOp.{UnaryOp}

-- A number has one pair in lowest terms, and a pair has one text.
pub record OneText : Type 0 where
  pub pairs : (m k n j : ℕ) → IsLowest m k → IsLowest n j → IsEqual m k n j → (m ≡ n) × (k ≡ j)
  pub texts : (m k : ℕ) (text other : List ℕ) → IsTextOf m k text → IsTextOf m k other → text ≡ other

-- An exact literal has one canonical text, which is an exact literal and its own canonical text.
pub record OneCanonical : Type 0 where
  pub some : (before after literal : List ℕ) → IsNumeral before after literal → IsExact before after
      → (text : List ℕ) × IsCanonical literal text
  pub one : (literal text other : List ℕ) → IsCanonical literal text → IsCanonical literal other → text ≡ other
  pub itself : (literal text : List ℕ) → IsCanonical literal text → IsCanonical text text

-- `canonical_text` computes the canonical text of each literal that has one, and nothing else.
abbrev pub GivesCanonical : Type 0
GivesCanonical = (literal text : List ℕ) → (canonical_text literal ≡ Some text) ↔ IsCanonical literal text

-- No two whole numbers below 10^15 have the same text.
pub record OneWhole : Type 0 where
  pub texts : (z : ℤ) → unsigned_abs z < 10 ^ 15 → IsWhole z (signed_decimal z)
  pub numbers : (x z : ℤ) (text : List ℕ) → IsWhole x text → IsWhole z text → x ≡ z

-- The computed result of an operator is the exact result, whenever there is one, and nothing else.
pub record FoldsAre : Type 0 where
  pub between : (op : Op) (a b text : List ℕ) → (fold_between op a b ≡ Some text) ↔ IsFold op a b text
  pub before : (op : UnaryOp) (a text : List ℕ) → (fold_before op a ≡ Some text) ↔ IsUnaryFold op a text

-- For a literal of digits only, `canonical` of Lexemes reads its canonical text, and refuses it if it has none.
pub record OneReading (digits : List ℕ) : Type 0 where
  pub reads : is_exact digits ≡ true → IsCanonical digits (canonical digits)
  pub alone : (text : List ℕ) → IsCanonical digits text → (is_exact digits ≡ true) × (text ≡ canonical digits)

abbrev pub BothRead : Type 0
BothRead = (digits : List ℕ) → are_digits digits ≡ true → 0 < length digits → OneReading digits
