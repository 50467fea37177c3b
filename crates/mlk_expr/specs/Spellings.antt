-- The smallest parts of expressions, as written, except names, labels and words: numbers, texts, pattern counts and operators.
use Rattle.std.specs.Prelude.{ℕ, ◌≡◌, ◌<◌, ◌⊎◌, true, List, [], ◌∷◌, ◌++◌, length, codes}
use Rattle.std.specs.List.{list_all}
use Rattle.mlk_text.specs.declared.operator.Op.{Op}
use Rattle.mlk_text.specs.declared.operator.Op.TheVariants as op
use Rattle.mlk_text.specs.declared.operator.Relation.{Relation}
use Rattle.mlk_text.specs.declared.operator.Relation.TheVariants as relation
use Rattle.mlk_text.specs.declared.operator.UnaryOp.{UnaryOp}
use Rattle.mlk_text.specs.declared.operator.UnaryOp.TheVariants as unary
use Rattle.mlk_text.specs.Lexemes.{is_text, doubled, are_digits}
use Rattle.mlk_numbers.specs.Numbers.{IsNumeral}
use Rattle.mlk_expr_tokens.specs.Lexemes.{is_pattern_code}

-- nothing, or a sign
abbrev pub IsSign : List ℕ → Type 0
IsSign s = (s ≡ []) ⊎ (s ≡ codes "+") ⊎ (s ≡ codes "-")

-- Nothing, or `E`, an optional sign, and digits. Standard: numeric literals, exponent.
abbrev pub IsExponent : List ℕ → Type 0
IsExponent s = (s ≡ [])
    ⊎ ((sign digits : List ℕ) × (s ≡ 69 ∷ (sign ++ digits)) × IsSign sign × (are_digits digits ≡ true)
    × (0 < length digits))

-- A numeric literal: digits with a point before, after or among them, and an optional exponent. Standard: numeric literals.
abbrev pub IsNumber : List ℕ → Type 0
IsNumber text = (before after mantissa exponent : List ℕ) × IsNumeral before after mantissa × IsExponent exponent
    × (text ≡ mantissa ++ exponent)

-- A quoted text, with each quote inside doubled. Standard: string literals.
abbrev pub IsStringLiteral : List ℕ → List ℕ → Type 0
IsStringLiteral value s = (s ≡ 34 ∷ (doubled value ++ 34 ∷ [])) × (is_text value ≡ true)

-- The count of a pattern atom: digits, or a point with optional digits on either side. Standard: pattern match, repcount.
abbrev pub IsCount : List ℕ → Type 0
IsCount c = (before after : List ℕ) × (are_digits before ≡ true) × (are_digits after ≡ true)
    × (((c ≡ before) × (0 < length before)) ⊎ (c ≡ before ++ 46 ∷ after))

-- Pattern codes: letters of `ACELNPU` in either case, at least one. Standard: pattern match, patcode.
abbrev pub IsCodes : List ℕ → Type 0
IsCodes s = (list_all is_pattern_code s ≡ true) × (0 < length s)

-- Standard: relations, logical operators, pattern match
abbrev pub relation_text : Relation → List ℕ
relation_text relation.Equals = codes "="
relation_text relation.Less = codes "<"
relation_text relation.Greater = codes ">"
relation_text relation.Contains = codes "["
relation_text relation.Follows = codes "]"
relation_text relation.SortsAfter = codes "]]"
relation_text relation.And = codes "&"
relation_text relation.Or = codes "!"
relation_text relation.Matches = codes "?"

-- Standard: arithmetic binary operators, concatenation; `'` negates a relation
abbrev pub op_text : Op → List ℕ
op_text op.Add = codes "+"
op_text op.Subtract = codes "-"
op_text op.Multiply = codes "*"
op_text op.Divide = codes "/"
op_text op.DivideWhole = codes "\\"
op_text op.Modulo = codes "#"
op_text op.Power = codes "**"
op_text op.Concatenate = codes "_"
op_text (op.Is r) = relation_text r
op_text (op.IsNot r) = 39 ∷ relation_text r

-- Standard: unary operators
abbrev pub unary_text : UnaryOp → List ℕ
unary_text unary.Plus = codes "+"
unary_text unary.Minus = codes "-"
unary_text unary.Not = codes "'"
