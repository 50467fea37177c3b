-- The grammar of expressions with what follows each part: `Is.. t xs ys` says that t is spelled at the front of xs, up to the
-- end of its parts, and that ys is after it. The readers are exact for it, and it agrees with the grammar of whole texts
-- (Joined). `end` is the column of the line's end.
use Rattle.std.specs.Prelude.{ℕ, zero, suc, ◌≡◌, ◌<◌, ◌≤◌, ◌⊎◌, Bool, true, false, List, [], ◌∷◌, ◌++◌, length, Option, Some, None}
use Rattle.mlk_text.specs.Reading.{Many}
use Rattle.mlk_text.specs.Lexemes.{byte_at, name_at, IsQuoted, label_at, word_at}
use Rattle.mlk_numbers.specs.Numbers.{IsCanonical}
use Rattle.mlk_text.specs.declared.operator.Op.{Op}
use Rattle.mlk_syntax.specs.declared.expr.Function.{Function}
use Rattle.mlk_syntax.specs.ExprTrees.{Tree, Lit, Free, LocalName, GlobalName, SpecialName, Prefixed, Chain, PatternText, Func, Selected, BareCall, CallOf, ActualTree, Given, ByRef, Missing, trees_from, subs_from, choices_from, actuals_from}
use Rattle.mlk_expr.specs.declared.context.Allows.TheVariants.{NoTouches}
use Rattle.mlk_expr.specs.Touches.{may_stand}
use Rattle.mlk_expr.specs.Grammar.{chained, named, takes}
use Rattle.mlk_expr_tokens.specs.Words.{special_of, function_of, is_select}
use Rattle.mlk_expr_tokens.specs.Lexemes.{column_of, op_at, is_match, unary_of, numeral_at, count_at, pattern_codes_at, lent_at, starts_reference, is_missing, ends}

-- after a comma
abbrev pub Next : {A : Type 0} → (A → List ℕ → List ℕ → Type 0) → ℕ → A → List ℕ → List ℕ → Type 0
Next Item comma a xs ys = Item a xs ys

-- one or more items separated by commas, and a closing parenthesis
abbrev pub IsList : {A : Type 0} → (A → List ℕ → List ℕ → Type 0) → List A → List ℕ → List ℕ → Type 0
IsList {A = A} Item items xs ys = (first : A) × (others : List A) × (m : List ℕ) × Item first xs m × Many (byte_at 44) (Next Item) others m (41 ∷ ys) × (items ≡ first ∷ others)

-- What follows the count of a pattern atom: codes, a text, or one of several patterns. Standard: pattern match, patatom.
abbrev pub IsMatcher : (List ℕ → List ℕ → List ℕ → Type 0) → List ℕ → List ℕ → List ℕ → List ℕ → Type 0
IsMatcher Deep count c xs ys = (c ≡ count) × (
    ((codes : List ℕ) × (pattern_codes_at xs ≡ Some (codes, ys)))
    ⊎ ((value : List ℕ) × IsQuoted value xs ys)
    ⊎ ((m : List ℕ) × (choices : List (List ℕ)) × (xs ≡ 40 ∷ m) × IsList Deep choices m ys))

-- A pattern as it is written: one or more atoms, each after its count, as long as counts follow; alternatives are one level
-- deeper. Standard: pattern match.
unfoldable pub IsPattern : ℕ → List ℕ → List ℕ → List ℕ → Type 0
IsPattern zero text xs ys = ⊥
IsPattern (suc k) text xs ys = (counts : List (List ℕ)) × Many count_at (IsMatcher (IsPattern k)) counts xs ys × (0 < length counts) × (xs ≡ text ++ ys)

-- what follows an operator: a pattern after a pattern match, an operand after any other
abbrev pub IsRight : (Tree → List ℕ → List ℕ → Type 0) → (List ℕ → List ℕ → List ℕ → Type 0) → Bool → Tree → List ℕ → List ℕ → Type 0
IsRight Atom Pattern false t xs ys = Atom t xs ys
IsRight Atom Pattern true t xs ys = (text : List ℕ) × Pattern text xs ys × (t ≡ PatternText text)

abbrev pub IsLink : (Tree → List ℕ → List ℕ → Type 0) → (List ℕ → List ℕ → List ℕ → Type 0) → Op → Op × Tree → List ℕ → List ℕ → Type 0
IsLink Atom Pattern op l xs ys = (l.0 ≡ op) × IsRight Atom Pattern (is_match op) l.1 xs ys

-- Operands separated by operators. Standard: expr, without precedence.
abbrev pub IsChain : (Tree → List ℕ → List ℕ → Type 0) → (List ℕ → List ℕ → List ℕ → Type 0) → Tree → List ℕ → List ℕ → Type 0
IsChain Atom Pattern t xs ys = (first : Tree) × (links : List (Op × Tree)) × (m : List ℕ) × Atom first xs m × Many op_at (IsLink Atom Pattern) links m ys × (t ≡ chained first links)

-- an item with its column
abbrev pub IsPlaced : ℕ → (Tree → List ℕ → List ℕ → Type 0) → ℕ × Tree → List ℕ → List ℕ → Type 0
IsPlaced end Item s xs ys = (s.0 ≡ column_of end xs) × Item s.1 xs ys

-- Subscripts: none, or a list in parentheses; at most 32. Standard: local and global variables; the number is this
-- project's own choice.
abbrev pub IsSubs : ℕ → (Tree → List ℕ → List ℕ → Type 0) → List (ℕ × Tree) → List ℕ → List ℕ → Type 0
IsSubs end Item [] xs ys = (xs ≡ ys) × (byte_at 40 xs ≡ None)
IsSubs end Item (s ∷ ss) xs ys = (m : List ℕ) × (xs ≡ 40 ∷ m) × IsList (IsPlaced end Item) (s ∷ ss) m ys × (length (s ∷ ss) ≤ 32)

-- An actual: a name after a point, nothing, or an expression. Standard: actual parameters.
abbrev pub IsActual : ℕ → (Tree → List ℕ → List ℕ → Type 0) → ActualTree → List ℕ → List ℕ → Type 0
IsActual end Item (ByRef column name) xs ys = (column ≡ column_of end xs) × (lent_at xs ≡ Some (name, ys))
IsActual end Item Missing xs ys = (xs ≡ ys) × (lent_at xs ≡ None) × (is_missing xs ≡ true)
IsActual end Item (Given t) xs ys = Item t xs ys × (lent_at xs ≡ None) × (is_missing xs ≡ false)

-- actuals after an opening parenthesis: `()` has none
abbrev pub IsActuals : ℕ → (Tree → List ℕ → List ℕ → Type 0) → List ActualTree → List ℕ → List ℕ → Type 0
IsActuals end Item [] xs ys = xs ≡ 41 ∷ ys
IsActuals end Item (a ∷ more) xs ys = IsList (IsActual end Item) (a ∷ more) xs ys × (byte_at 41 xs ≡ None)

-- something without globals and calls
abbrev pub Quiet : (Tree → List ℕ → List ℕ → Type 0) → Tree → List ℕ → List ℕ → Type 0
Quiet Item t xs ys = Item t xs ys × (may_stand NoTouches t ≡ true)

-- Arguments: expressions, or a name and what may follow it. Standard: functions.
abbrev pub IsArguments : (Tree → List ℕ → List ℕ → Type 0) → (Tree → List ℕ → List ℕ → Type 0) → Function → Option ℕ → List Tree → List ℕ → List ℕ → Type 0
IsArguments Atom Item f None args xs ys = IsList Item args xs ys
IsArguments Atom Item f (Some most) args xs ys = (first : Tree) × (others : List Tree) × (m : List ℕ)
    × Atom first xs m × (starts_reference xs ≡ true) × (takes f first ≡ true)
    × Many (byte_at 44) (Next (Quiet Item)) others m (41 ∷ ys) × (length others ≤ most) × (args ≡ first ∷ others)

-- a condition and its value
abbrev pub IsChoice : (Tree → List ℕ → List ℕ → Type 0) → Tree × Tree → List ℕ → List ℕ → Type 0
IsChoice Item c xs ys = (m : List ℕ) × Item c.0 xs (58 ∷ m) × Item c.1 m ys

-- What a call names, after `$$`. Standard: extrinsic functions, labelref.
abbrev pub IsCallee : Option (List ℕ) → Option (List ℕ) → List ℕ → List ℕ → Type 0
IsCallee (Some label) None xs ys = (label_at xs ≡ Some (label, ys)) × (byte_at 94 ys ≡ None)
IsCallee (Some label) (Some routine) xs ys = (m : List ℕ) × (label_at xs ≡ Some (label, 94 ∷ m)) × (name_at m ≡ Some (routine, ys))
IsCallee None (Some routine) xs ys = (m : List ℕ) × (xs ≡ 94 ∷ m) × (name_at m ≡ Some (routine, ys))
IsCallee None None xs ys = ⊥

-- An operand without parentheses around it. `Atom` and `Pattern` are for parts one level deeper. Standard: expratom. What has no
-- case here is not read: indirection, naked references, structured system variables, other functions and special variables,
-- external calls, environments.
abbrev pub IsPlain : ℕ → (Tree → List ℕ → List ℕ → Type 0) → (List ℕ → List ℕ → List ℕ → Type 0) → Tree → List ℕ → List ℕ → Type 0
IsPlain end Atom Pattern (Lit value) xs ys =
    ((text : List ℕ) × (numeral_at xs ≡ Some (text, ys)) × IsCanonical text value) ⊎ IsQuoted value xs ys
IsPlain end Atom Pattern Free xs ys = (text : List ℕ) × (numeral_at xs ≡ Some (text, ys)) × ((value : List ℕ) → IsCanonical text value → ⊥)
IsPlain end Atom Pattern (LocalName name subs) xs ys = (m : List ℕ) × (ss : List (ℕ × Tree))
    × (name_at xs ≡ Some (name, m)) × IsSubs end (IsChain Atom Pattern) ss m ys × (subs ≡ subs_from ss)
IsPlain end Atom Pattern (GlobalName column name subs) xs ys = (m n : List ℕ) × (ss : List (ℕ × Tree))
    × (xs ≡ 94 ∷ m) × (column ≡ column_of end xs) × (name_at m ≡ Some (name, n)) × IsSubs end (IsChain Atom Pattern) ss n ys × (subs ≡ subs_from ss)
IsPlain end Atom Pattern (SpecialName special) xs ys = (m w : List ℕ)
    × (xs ≡ 36 ∷ m) × (word_at m ≡ (w, ys)) × (special_of w ≡ Some special) × (byte_at 40 ys ≡ None)
IsPlain end Atom Pattern (Prefixed op t) xs ys = (b : ℕ) × (m : List ℕ) × (xs ≡ b ∷ m) × (unary_of b ≡ Some op) × Atom t m ys
IsPlain end Atom Pattern (Chain t ls) xs ys = ⊥
IsPlain end Atom Pattern (PatternText text) xs ys = ⊥
IsPlain end Atom Pattern (Func f args) xs ys = (m n w : List ℕ) × (ts : List Tree)
    × (xs ≡ 36 ∷ m) × (word_at m ≡ (w, 40 ∷ n)) × (function_of w ≡ Some f) × IsArguments Atom (IsChain Atom Pattern) f (named f) ts n ys × (args ≡ trees_from ts)
IsPlain end Atom Pattern (Selected choices) xs ys = (m n w : List ℕ) × (cs : List (Tree × Tree))
    × (xs ≡ 36 ∷ m) × (word_at m ≡ (w, 40 ∷ n)) × (is_select w ≡ true) × IsList (IsChoice (IsChain Atom Pattern)) cs n ys × (choices ≡ choices_from cs)
IsPlain end Atom Pattern (BareCall column callee) xs ys = (m : List ℕ)
    × (xs ≡ 36 ∷ 36 ∷ m) × (column ≡ column_of end xs) × IsCallee callee.label callee.routine m ys × (byte_at 40 ys ≡ None)
IsPlain end Atom Pattern (CallOf column callee actuals) xs ys = (m n : List ℕ) × (given : List ActualTree)
    × (xs ≡ 36 ∷ 36 ∷ m) × (column ≡ column_of end xs) × IsCallee callee.label callee.routine m (40 ∷ n)
    × IsActuals end (IsChain Atom Pattern) given n ys × (actuals ≡ actuals_from given)

-- an operand, perhaps in parentheses, which have no node
abbrev pub IsOperand : ℕ → (Tree → List ℕ → List ℕ → Type 0) → (List ℕ → List ℕ → List ℕ → Type 0) → Tree → List ℕ → List ℕ → Type 0
IsOperand end Atom Pattern t xs ys = IsPlain end Atom Pattern t xs ys ⊎ ((m : List ℕ) × (xs ≡ 40 ∷ m) × IsChain Atom Pattern t m (41 ∷ ys))

-- an operand that nests at most this deep
unfoldable pub IsAtom : ℕ → ℕ → Tree → List ℕ → List ℕ → Type 0
IsAtom end zero t xs ys = ⊥
IsAtom end (suc k) t xs ys = IsOperand end (IsAtom end k) (IsPattern k) t xs ys

-- an expression that nests at most this deep
abbrev pub IsNested : ℕ → ℕ → Tree → List ℕ → List ℕ → Type 0
IsNested end k t xs ys = IsChain (IsAtom end k) (IsPattern k) t xs ys

-- An expression with an end: the outermost is the first of at most 64. The depth is this project's own choice.
unfoldable pub IsExpr : ℕ → Tree → List ℕ → List ℕ → Type 0
IsExpr end t xs ys = IsNested end 64 t xs ys × (ends ys ≡ true)

-- a local or a global name with its subscripts, as in SET, KILL or LOCK: its parts are one level deeper
unfoldable pub IsReference : ℕ → Tree → List ℕ → List ℕ → Type 0
IsReference end t xs ys = IsAtom end 64 t xs ys × (starts_reference xs ≡ true)

-- an actual list in parentheses, as in DO and JOB: its parts are one level deeper
unfoldable pub IsActualList : ℕ → List ActualTree → List ℕ → List ℕ → Type 0
IsActualList end given xs ys = (m : List ℕ) × (xs ≡ 40 ∷ m) × IsActuals end (IsNested end 63) given m ys
