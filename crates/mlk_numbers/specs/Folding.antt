-- Operators whose result is known exactly from the texts of their operands.
use Rattle.std.specs.Prelude.{ℕ, ◌≡◌, ◌≤◌, ◌<◌, ◌^◌, ◌⊎◌, ◌&&◌, nat_lt, true, get_or, if◌then◌else◌, Bool, ℤ, ◌+ℤ◌, ◌-ℤ◌}
use Rattle.std.specs.Prelude.{◌*ℤ◌, neg_ℤ, unsigned_abs, List, [], ◌∷◌, ◌++◌, length, Option, Some, None, option_and_then}
use Rattle.std.specs.Fmt.{signed_decimal}
use Rattle.mlk_text.specs.Lexemes.{are_digits}
use Rattle.mlk_text.specs.declared.operator.Op.{Op}
use Rattle.mlk_text.specs.declared.operator.Op.TheVariants.{Add, Subtract, Multiply, Concatenate}
use Rattle.mlk_text.specs.declared.operator.UnaryOp.{UnaryOp}
use Rattle.mlk_text.specs.declared.operator.UnaryOp.TheVariants.{Plus, Minus, Not}

-- at most 15 digits, the first of which is `0` only if there are no others
pub record IsPlain (digits : List ℕ) : Type 0 where
  pub shape : are_digits digits ≡ true
  pub some_digit : 0 < length digits
  pub few : length digits ≤ 15
  pub no_leading_zero : get_or digits 0 0 ≡ 48 → length digits ≡ 1

-- Whether a whole number has at most 15 digits. This project's own choice: every system computes exactly with these.
abbrev pub is_short : ℤ → Bool
is_short z = nat_lt (unsigned_abs z) (10 ^ 15)

abbrev pub if_short : ℤ → Option ℤ
if_short z = if is_short z then Some z else None

-- The text of a whole number of at most 15 digits, as a value. Standard: canonic numeric values.
abbrev pub IsWhole : ℤ → List ℕ → Type 0
IsWhole z text = (unsigned_abs z < 10 ^ 15) × (text ≡ signed_decimal z)

-- Sum, difference and product. Standard: arithmetic binary operators.
abbrev pub exact_result : Op → ℤ → ℤ → Option ℤ
exact_result Add x y = Some (x +ℤ y)
exact_result Subtract x y = Some (x -ℤ y)
exact_result Multiply x y = Some (x *ℤ y)
exact_result _ x y = None

-- `exact_result`, if operands and result have at most 15 digits
abbrev pub folded : Op → ℤ → ℤ → Option ℤ
folded op x y = if is_short x && is_short y then option_and_then if_short (exact_result op x y) else None

-- The exact result of an operator on whole numbers, or of joining two texts, if that has at most 255 bytes. Standard: arithmetic
-- binary operators, concatenation; the limits are this project's own choice.
abbrev pub IsFold : Op → List ℕ → List ℕ → List ℕ → Type 0
IsFold op a b text =
    ((op ≡ Concatenate) × (text ≡ a ++ b) × (length text ≤ 255))
    ⊎ ((x y z : ℤ) × IsWhole x a × IsWhole y b × (folded op x y ≡ Some z) × IsWhole z text)

-- The exact result of a unary operator on a whole number; `'` has one only for `0` and `1`. Standard: unary operators.
abbrev pub IsUnaryFold : UnaryOp → List ℕ → List ℕ → Type 0
IsUnaryFold Plus a text = (x : ℤ) × IsWhole x a × (text ≡ a)
IsUnaryFold Minus a text = (x : ℤ) × IsWhole x a × IsWhole (neg_ℤ x) text
IsUnaryFold Not a text = ((a ≡ 48 ∷ []) × (text ≡ 49 ∷ [])) ⊎ ((a ≡ 49 ∷ []) × (text ≡ 48 ∷ []))
