-- The smallest parts of expressions, each as long as possible.
use Rattle.std.specs.Prelude.{ℕ, suc, ◌+◌, ◌-◌, ◌==◌, ◌&&◌, ◌||◌, if◌then◌else◌, Bool, true, false, List, [], ◌∷◌}
use Rattle.std.specs.Prelude.{length, Option, Some, None, take, drop}
use Rattle.std.specs.List.{prefix_len}
use Rattle.mlk_text.specs.Lexemes.{is_digit, is_letter, or_else, digits, byte_at, name_at}
use Rattle.mlk_text.specs.Places.{column_at}
use Rattle.mlk_text.specs.Reading.{with}
use Rattle.mlk_text.specs.declared.operator.Op.{Op}
use Rattle.mlk_text.specs.declared.operator.Op.TheVariants as op
use Rattle.mlk_text.specs.declared.operator.Relation.{Relation}
use Rattle.mlk_text.specs.declared.operator.Relation.TheVariants as relation
use Rattle.mlk_text.specs.declared.operator.UnaryOp.{UnaryOp}
use Rattle.mlk_text.specs.declared.operator.UnaryOp.TheVariants as unary
use Rattle.mlk_expr_tokens.specs.declared.lexeme.Kind.{Kind}
use Rattle.mlk_expr_tokens.specs.declared.lexeme.Kind.TheVariants as kind

-- the column where xs begins, in a line whose end has the column `end`
abbrev pub column_of : ℕ → List ℕ → ℕ
column_of end xs = column_at (end - length xs)

-- An operator of one byte. Standard: arithmetic binary operators, concatenation,
unfoldable pub arithmetic_of : ℕ → Option Op
arithmetic_of b =
    if b == 43 then Some op.Add
    else if b == 45 then Some op.Subtract
    else if b == 42 then Some op.Multiply
    else if b == 47 then Some op.Divide
    else if b == 92 then Some op.DivideWhole
    else if b == 35 then Some op.Modulo
    else if b == 95 then Some op.Concatenate
    else None

-- relations, logical operators and pattern match.
unfoldable pub relation_of : ℕ → Option Relation
relation_of b =
    if b == 61 then Some relation.Equals
    else if b == 60 then Some relation.Less
    else if b == 62 then Some relation.Greater
    else if b == 91 then Some relation.Contains
    else if b == 93 then Some relation.Follows
    else if b == 38 then Some relation.And
    else if b == 33 then Some relation.Or
    else if b == 63 then Some relation.Matches
    else None

-- what a byte spells, with the rest
abbrev pub one_byte : {A : Type 0} → Option A → List ℕ → Option (A × List ℕ)
one_byte None xs = None
one_byte (Some a) xs = Some (a, xs)

-- a byte that spells something else if it is doubled
abbrev pub twice_or : {A : Type 0} → A → Option (ℕ × List ℕ) → Option (A × List ℕ) → Option (A × List ℕ)
twice_or two None one = one
twice_or two (Some second) one = Some (two, second.1)

-- `]]` is longer than `]`
unfoldable pub relation_at : List ℕ → Option (Relation × List ℕ)
relation_at [] = None
relation_at (b ∷ xs) = if b == 93 then twice_or relation.SortsAfter (byte_at 93 xs) (Some (relation.Follows, xs))
    else one_byte (relation_of b) xs

-- `**` is longer than `*`
unfoldable pub arithmetic_at : List ℕ → Option (Op × List ℕ)
arithmetic_at [] = None
arithmetic_at (b ∷ xs) = if b == 42 then twice_or op.Power (byte_at 42 xs) (Some (op.Multiply, xs))
    else one_byte (arithmetic_of b) xs

-- the longest operator at the front: `'` may precede a relation
abbrev pub op_by : List ℕ → Option (ℕ × List ℕ) → Option (Op × List ℕ)
op_by xs None = or_else (with op.Is (relation_at xs)) (arithmetic_at xs)
op_by xs (Some quote) = with op.IsNot (relation_at quote.1)

unfoldable pub op_at : List ℕ → Option (Op × List ℕ)
op_at xs = op_by xs (byte_at 39 xs)

-- the right operand of these is a pattern
abbrev pub is_match : Op → Bool
is_match (op.Is relation.Matches) = true
is_match (op.IsNot relation.Matches) = true
is_match o = false

-- Standard: unary operators
unfoldable pub unary_of : ℕ → Option UnaryOp
unary_of b =
    if b == 43 then Some unary.Plus
    else if b == 45 then Some unary.Minus
    else if b == 39 then Some unary.Not
    else None

-- what a byte may begin
abbrev pub kind_by : ℕ → Option UnaryOp → Kind
kind_by b (Some op) = kind.Prefix op
kind_by b None =
    if b == 34 then kind.Quote
    else if b == 94 then kind.Caret
    else if b == 36 then kind.Dollar
    else if b == 40 then kind.Open
    else kind.Other

unfoldable pub kind_of : ℕ → Kind
kind_of b =
    if is_digit b || (b == 46) then kind.Numeral
    else if is_letter b || (b == 37) then kind.Letter
    else kind_by b (unary_of b)

-- the length of digits with a point among, before or after them: 0 if there is no digit
abbrev pub point_len : ℕ → List ℕ → ℕ
point_len whole [] = whole
point_len whole (b ∷ xs) = if b == 46 then (if (whole == 0) && (digits xs == 0) then 0 else whole + suc (digits xs))
    else whole

-- the length of `E`, an optional sign and digits: 0 if it is not complete. Standard: numeric literals, exponent
abbrev pub signed_len : List ℕ → ℕ
signed_len [] = 0
signed_len (b ∷ xs) = if (b == 43) || (b == 45) then (if digits xs == 0 then 0 else suc (digits xs))
    else digits (b ∷ xs)

abbrev pub exponent_len : List ℕ → ℕ
exponent_len [] = 0
exponent_len (b ∷ xs) = if b == 69 then (if signed_len xs == 0 then 0 else suc (signed_len xs)) else 0

-- whether there is an `E` here without an exponent after it
abbrev pub has_no_exponent : List ℕ → Bool
has_no_exponent [] = false
has_no_exponent (b ∷ xs) = (b == 69) && (signed_len xs == 0)

-- A numeric literal, as written; it is none if an `E` without digits follows. Standard: numeric literals.
unfoldable pub mantissa_len : List ℕ → ℕ
mantissa_len xs = point_len (digits xs) (drop (digits xs) xs)

unfoldable pub numeral_at : List ℕ → Option (List ℕ × List ℕ)
numeral_at xs =
    let n = mantissa_len xs in
    let m = n + exponent_len (drop n xs) in
    if (n == 0) || has_no_exponent (drop n xs) then None else Some (take m xs, drop m xs)

-- The count of a pattern atom: digits, a point, or both. Standard: pattern match, repcount.
abbrev pub count_len : ℕ → Option (ℕ × List ℕ) → ℕ
count_len whole None = whole
count_len whole (Some point) = whole + suc (digits point.1)

unfoldable pub count_at : List ℕ → Option (List ℕ × List ℕ)
count_at xs =
    let n = count_len (digits xs) (byte_at 46 (drop (digits xs) xs)) in
    if n == 0 then None else Some (take n xs, drop n xs)

-- the letters of pattern codes, in either case: A, C, E, L, N, P, U
abbrev pub is_pattern_code : ℕ → Bool
is_pattern_code b =
    (b == 65) || (b == 67) || (b == 69) || (b == 76) || (b == 78) || (b == 80) || (b == 85)
    || (b == 97) || (b == 99) || (b == 101) || (b == 108) || (b == 110) || (b == 112) || (b == 117)

abbrev pub pattern_codes : List ℕ → ℕ
pattern_codes = prefix_len is_pattern_code

-- Pattern codes, at least one. Standard: pattern match, patcode.
unfoldable pub pattern_codes_at : List ℕ → Option (List ℕ × List ℕ)
pattern_codes_at xs = let n = pattern_codes xs in if n == 0 then None else Some (take n xs, drop n xs)

-- a name after a point: an actual by reference
abbrev pub lent_by : Option (ℕ × List ℕ) → Option (List ℕ × List ℕ)
lent_by None = None
lent_by (Some p) = name_at p.1

unfoldable pub lent_at : List ℕ → Option (List ℕ × List ℕ)
lent_at xs = lent_by (byte_at 46 xs)

-- whether the name of a local or a global begins here: a letter, `%` or `^`
abbrev pub starts_reference : List ℕ → Bool
starts_reference [] = false
starts_reference (b ∷ xs) = is_letter b || (b == 37) || (b == 94)

-- whether an actual is missing here
abbrev pub is_missing : List ℕ → Bool
is_missing [] = false
is_missing (b ∷ xs) = (b == 44) || (b == 41)

-- Where an expression may end: at the line's end, or before a space, `,`, `)`, `:` or `;`. This project's own choice.
unfoldable pub ends : List ℕ → Bool
ends [] = true
ends (b ∷ xs) = (b == 32) || (b == 44) || (b == 41) || (b == 58) || (b == 59)
