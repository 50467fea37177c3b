-- Results of operators on known texts: the exact result, or none. Standard: operators, canonic numeric values. It is this
-- project's own choice that only whole numbers of at most 15 digits and texts of at most 255 bytes are computed. A law says that
-- the results are those of `Folding`.
use Rattle.std.specs.Prelude.{ℕ, ℤ, pos, neg_ℤ, Bool, true, false, ◌&&◌, ◌==◌, nat_le}
use Rattle.std.specs.Prelude.{if◌then◌else◌, List, [], ◌∷◌, ◌++◌, length, Option, Some, None}
use Rattle.std.specs.Prelude.{option_map, option_and_then, bytes_eq, codes}
use Rattle.std.specs.Fmt.{signed_decimal}
use Rattle.mlk_numbers.specs.Numbers.{number_of_digits}
use Rattle.mlk_numbers.specs.Folding.{is_short, if_short, folded}
use Rattle.mlk_text.specs.declared.operator.Op.{Op}
use Rattle.mlk_text.specs.declared.operator.Op.TheVariants.{Concatenate}
use Rattle.mlk_text.specs.declared.operator.UnaryOp.{UnaryOp}
use Rattle.mlk_text.specs.declared.operator.UnaryOp.TheVariants.{Plus, Minus, Not}

-- the number that a text denotes if it is a whole number
abbrev pub number_in : List ℕ → ℤ
number_in [] = pos 0
number_in (b ∷ bs) = if b == 45 then neg_ℤ (pos (number_of_digits bs)) else pos (number_of_digits (b ∷ bs))

-- the whole number, if it has at most 15 digits and the given text is its text
abbrev pub if_text_of : ℤ → List ℕ → Option ℤ
if_text_of z text = if is_short z && bytes_eq text (signed_decimal z) then Some z else None

unfoldable pub whole : List ℕ → Option ℤ
whole text = if_text_of (number_in text) text

abbrev pub if_joined : List ℕ → Option (List ℕ)
if_joined text = if nat_le (length text) 255 then Some text else None

abbrev pub of_numbers : Op → Option ℤ → Option ℤ → Option (List ℕ)
of_numbers op None y = None
of_numbers op (Some x) None = None
of_numbers op (Some x) (Some y) = option_map signed_decimal (folded op x y)

-- a binary operator on two texts
unfoldable pub fold_between : Op → List ℕ → List ℕ → Option (List ℕ)
fold_between Concatenate a b = if_joined (a ++ b)
fold_between op a b = of_numbers op (whole a) (whole b)

-- the truth value of a text: `0` is false and `1` is true; that of any other text is not known
abbrev pub truth_of_text : List ℕ → Option Bool
truth_of_text a =
    if bytes_eq a (codes "0") then Some false
    else if bytes_eq a (codes "1") then Some true
    else None

-- `'` has a known result only for `0` and `1`
abbrev pub opposite : List ℕ → Option (List ℕ)
opposite a =
    if bytes_eq a (codes "0") then Some (codes "1")
    else if bytes_eq a (codes "1") then Some (codes "0")
    else None

-- a unary operator on a text
unfoldable pub fold_before : UnaryOp → List ℕ → Option (List ℕ)
fold_before Plus a = option_map signed_decimal (whole a)
fold_before Minus a = option_map signed_decimal (option_and_then (λ z. if_short (neg_ℤ z)) (whole a))
fold_before Not a = opposite a
