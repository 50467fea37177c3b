-- The expressions of M, from trees to texts. `Is.. at t s` says that the text s spells the tree t, where s begins in the
-- column `at`; a tree keeps the columns of some of its parts. Consecutive parts are joined by `++`.
use Rattle.std.specs.Prelude.{ℕ, zero, suc, ◌≡◌, ◌≢◌, ◌<◌, ◌≤◌, ◌+◌, ◌⊎◌, Bool, true, false, List, [], ◌∷◌, ◌++◌}
use Rattle.std.specs.Prelude.{length, Option, Some, None}
use Rattle.mlk_numbers.specs.Numbers.{IsCanonical}
use Rattle.mlk_text.specs.declared.operator.Op.{Op}
use Rattle.mlk_syntax.specs.declared.expr.Callee.{Callee}
use Rattle.mlk_syntax.specs.declared.expr.Function.{Function}
use Rattle.mlk_syntax.specs.declared.expr.Function.TheVariants as function
use Rattle.mlk_syntax.specs.ExprTrees.{Tree, Lit, Free, LocalName, GlobalName, SpecialName, Prefixed, Chain, PatternText}
use Rattle.mlk_syntax.specs.ExprTrees.{Func, Selected, BareCall, CallOf, sub, ActualTree, Given, ByRef, Missing, trees_from}
use Rattle.mlk_syntax.specs.ExprTrees.{subs_from, links_from, choices_from, actuals_from}
use Rattle.mlk_expr.specs.declared.context.Allows.{Allows}
use Rattle.mlk_expr.specs.declared.context.Allows.TheVariants.{NoTouches}
use Rattle.mlk_expr.specs.declared.context.Passing.{Passing}
use Rattle.mlk_expr.specs.Touches.{may_stand, subs_stand, given_stand, Standing}
use Rattle.mlk_expr_tokens.specs.Words.{special_of, function_of, is_select}
use Rattle.mlk_expr_tokens.specs.Lexemes.{is_match, starts_reference}
use Rattle.mlk_text.specs.Places.{column_at}
use Rattle.mlk_text.specs.Spellings.{IsName, IsLabel, IsWord}
use Rattle.mlk_expr.specs.Spellings.{IsNumber, IsStringLiteral, IsCount, IsCodes, op_text, unary_text}

-- how a thing is spelled, given the column where its text begins
abbrev pub Spelled : Type 0 → Type 1
Spelled A = ℕ → A → List ℕ → Type 0

-- items, each after a comma
abbrev pub AreNext : {A : Type 0} → Spelled A → ℕ → List A → List ℕ → Type 0
AreNext Item at [] s = s ≡ []
AreNext Item at (a ∷ items) s = (front rest : List ℕ) × (s ≡ 44 ∷ (front ++ rest)) × Item (suc at) a front
    × AreNext Item (suc (at + length front)) items rest

-- one or more items separated by commas
abbrev pub IsList : {A : Type 0} → Spelled A → ℕ → List A → List ℕ → Type 0
IsList {A = A} Item at items s = (first : A) × (others : List A) × (front rest : List ℕ)
    × (items ≡ first ∷ others) × (s ≡ front ++ rest) × Item at first front
    × AreNext Item (at + length front) others rest

-- a text in parentheses
abbrev pub IsEnclosed : List ℕ → List ℕ → Type 0
IsEnclosed inner s = s ≡ 40 ∷ (inner ++ 41 ∷ [])

-- What follows the count of a pattern atom: codes, a text, or one of several patterns, whose columns are not kept. Standard:
-- pattern match, patatom.
abbrev pub IsMatcher : (List ℕ → Type 0) → List ℕ → Type 0
IsMatcher Deep s = IsCodes s
    ⊎ ((value : List ℕ) × IsStringLiteral value s)
    ⊎ ((inner : List ℕ) × (choices : List (List ℕ)) × IsEnclosed inner s
    × IsList (λ at choice t. (t ≡ choice) × Deep choice) 0 choices inner)

-- counts, each with its matcher after it
abbrev pub AreAtoms : (List ℕ → Type 0) → List (List ℕ) → List ℕ → Type 0
AreAtoms Deep [] s = s ≡ []
AreAtoms Deep (count ∷ counts) s = (matcher rest : List ℕ) × (s ≡ count ++ (matcher ++ rest)) × IsCount count
    × IsMatcher Deep matcher × AreAtoms Deep counts rest

-- A pattern: one or more atoms; alternatives are one level deeper. Standard: pattern match.
unfoldable pub IsPattern : ℕ → List ℕ → Type 0
IsPattern zero s = ⊥
IsPattern (suc k) s = (counts : List (List ℕ)) × (0 < length counts) × AreAtoms (IsPattern k) counts s

-- the right operand of an operator: a pattern after a pattern match, an operand after any other
abbrev pub IsRight : Spelled Tree → (List ℕ → Type 0) → Bool → ℕ → Tree → List ℕ → Type 0
IsRight Atom Pattern false at t s = Atom at t s
IsRight Atom Pattern true at t s = (t ≡ PatternText s) × Pattern s

-- operators, each with its right operand
abbrev pub AreLinks : Spelled Tree → (List ℕ → Type 0) → ℕ → List (Op × Tree) → List ℕ → Type 0
AreLinks Atom Pattern at [] s = s ≡ []
AreLinks Atom Pattern at (l ∷ links) s = (right rest : List ℕ) × (s ≡ op_text l.0 ++ (right ++ rest))
    × IsRight Atom Pattern (is_match l.0) (at + length (op_text l.0)) l.1 right
    × AreLinks Atom Pattern (at + length (op_text l.0) + length right) links rest

-- one operand is itself, several are a chain, which is left-associative
abbrev pub chained : Tree → List (Op × Tree) → Tree
chained t [] = t
chained t (l ∷ ls) = Chain t (links_from (l ∷ ls))

-- Operands separated by operators. Standard: expr, without precedence.
abbrev pub IsChain : Spelled Tree → (List ℕ → Type 0) → ℕ → Tree → List ℕ → Type 0
IsChain Atom Pattern at t s = (first : Tree) × (links : List (Op × Tree)) × (front rest : List ℕ)
    × (t ≡ chained first links) × (s ≡ front ++ rest) × Atom at first front
    × AreLinks Atom Pattern (at + length front) links rest

-- an item with its column
abbrev pub IsPlaced : Spelled Tree → ℕ → ℕ × Tree → List ℕ → Type 0
IsPlaced Item at p s = (p.0 ≡ column_at at) × Item at p.1 s

-- Subscripts: none, or a list in parentheses; at most 32. Standard: local and global variables; the limit is this project's own
-- choice.
abbrev pub IsSubs : Spelled Tree → ℕ → List (ℕ × Tree) → List ℕ → Type 0
IsSubs Item at [] s = s ≡ []
IsSubs Item at (p ∷ subs) s = (inner : List ℕ) × IsEnclosed inner s × IsList (IsPlaced Item) (suc at) (p ∷ subs) inner
    × (length (p ∷ subs) ≤ 32)

-- An actual: a name after a point, nothing, or an expression. Standard: actual parameters.
abbrev pub IsActual : Spelled Tree → ℕ → ActualTree → List ℕ → Type 0
IsActual Item at (ByRef column name) s = (s ≡ 46 ∷ name) × (column ≡ column_at at) × IsName name
IsActual Item at Missing s = s ≡ []
IsActual Item at (Given t) s = Item at t s

-- actuals in parentheses: `()` has none
abbrev pub IsActuals : Spelled Tree → ℕ → List ActualTree → List ℕ → Type 0
IsActuals Item at [] s = s ≡ 40 ∷ 41 ∷ []
IsActuals Item at (a ∷ more) s = (inner : List ℕ) × IsEnclosed inner s
    × IsList (IsActual Item) (suc at) (a ∷ more) inner × (inner ≢ [])

-- the functions whose first argument is a variable, and the maximum number of arguments after it
abbrev pub named : Function → Option ℕ
named function.Data = Some 0
named function.Get = Some 1
named function.Increment = Some 1
named function.Name = Some 1
named function.Order = Some 1
named function.Query = Some 0
named f = None

-- whether a name has a subscript, and whether it is that of a global
abbrev pub has_subscript : Tree → Bool
has_subscript (LocalName name (sub column t more)) = true
has_subscript (GlobalName column name (sub at t more)) = true
has_subscript t = false

abbrev pub is_global : Tree → Bool
is_global (GlobalName column name subs) = true
is_global t = false

-- The names that a function takes: `$ORDER` requires a subscript. `$INCREMENT` of a local is not read, which is this project's own
-- choice.
abbrev pub takes : Function → Tree → Bool
takes function.Order t = has_subscript t
takes function.Increment t = is_global t
takes f t = true

-- Arguments: expressions, or a name and the arguments that may follow it, which contain no global and no call, since it is
-- not certain whether the name's node or they are evaluated first. Standard: functions.
abbrev pub AreArguments : Spelled Tree → Spelled Tree → Function → Option ℕ → ℕ → List Tree → List ℕ → Type 0
AreArguments Atom Item f None at args s = IsList Item at args s
AreArguments Atom Item f (Some most) at args s = (first : Tree) × (others : List Tree) × (front rest : List ℕ)
    × (args ≡ first ∷ others) × (s ≡ front ++ rest) × Atom at first front × (starts_reference front ≡ true)
    × (takes f first ≡ true)
    × AreNext (Standing (may_stand NoTouches) Item) (at + length front) others rest × (length others ≤ most)

-- a condition and its value
abbrev pub IsChoice : Spelled Tree → ℕ → Tree × Tree → List ℕ → Type 0
IsChoice Item at c s = (front rest : List ℕ) × (s ≡ front ++ 58 ∷ rest) × Item at c.0 front
    × Item (suc (at + length front)) c.1 rest

-- A callee, after `$$`. Standard: extrinsic functions, labelref.
abbrev pub IsCallee : Option (List ℕ) → Option (List ℕ) → List ℕ → Type 0
IsCallee (Some label) None s = (s ≡ label) × IsLabel label
IsCallee (Some label) (Some routine) s = (s ≡ label ++ 94 ∷ routine) × IsLabel label × IsName routine
IsCallee None (Some routine) s = (s ≡ 94 ∷ routine) × IsName routine
IsCallee None None s = ⊥

-- An operand without parentheses around it. `Atom` and `Pattern` are one level deeper. Standard: expratom. What has no case here
-- is not read: indirection, naked references, structured system variables, other functions and special variables, external calls,
-- environments.
abbrev pub IsPlain : Spelled Tree → (List ℕ → Type 0) → ℕ → Tree → List ℕ → Type 0
IsPlain Atom Pattern at (Lit value) s = IsCanonical s value ⊎ IsStringLiteral value s
IsPlain Atom Pattern at Free s = IsNumber s × ((value : List ℕ) → IsCanonical s value → ⊥)
IsPlain Atom Pattern at (LocalName name subs) s = (part : List ℕ) × (items : List (ℕ × Tree))
    × (s ≡ name ++ part) × IsName name × IsSubs (IsChain Atom Pattern) (at + length name) items part
    × (subs ≡ subs_from items)
IsPlain Atom Pattern at (GlobalName column name subs) s = (part : List ℕ) × (items : List (ℕ × Tree))
    × (s ≡ 94 ∷ (name ++ part)) × (column ≡ column_at at) × IsName name
    × IsSubs (IsChain Atom Pattern) (suc at + length name) items part × (subs ≡ subs_from items)
IsPlain Atom Pattern at (SpecialName special) s = (w : List ℕ) × (s ≡ 36 ∷ w) × IsWord w × (special_of w ≡ Some special)
IsPlain Atom Pattern at (Prefixed op t) s = (operand : List ℕ) × (s ≡ unary_text op ++ operand)
    × Atom (suc at) t operand
IsPlain Atom Pattern at (Chain t ls) s = ⊥
IsPlain Atom Pattern at (PatternText text) s = ⊥
IsPlain Atom Pattern at (Func f args) s = (w inner part : List ℕ) × (items : List Tree)
    × (s ≡ 36 ∷ (w ++ part)) × IsWord w × (function_of w ≡ Some f) × IsEnclosed inner part
    × AreArguments Atom (IsChain Atom Pattern) f (named f) (2 + (at + length w)) items inner × (args ≡ trees_from items)
IsPlain Atom Pattern at (Selected choices) s = (w inner part : List ℕ) × (items : List (Tree × Tree))
    × (s ≡ 36 ∷ (w ++ part)) × IsWord w × (is_select w ≡ true) × IsEnclosed inner part
    × IsList (IsChoice (IsChain Atom Pattern)) (2 + (at + length w)) items inner × (choices ≡ choices_from items)
IsPlain Atom Pattern at (BareCall column callee) s = (called : List ℕ) × (s ≡ 36 ∷ 36 ∷ called) × (column ≡ column_at at)
    × IsCallee callee.label callee.routine called
IsPlain Atom Pattern at (CallOf column callee actuals) s = (called part : List ℕ) × (given : List ActualTree)
    × (s ≡ 36 ∷ 36 ∷ (called ++ part)) × (column ≡ column_at at) × IsCallee callee.label callee.routine called
    × IsActuals (IsChain Atom Pattern) (2 + (at + length called)) given part × (actuals ≡ actuals_from given)

-- an operand, optionally in parentheses, which leave no node
abbrev pub IsOperand : Spelled Tree → (List ℕ → Type 0) → ℕ → Tree → List ℕ → Type 0
IsOperand Atom Pattern at t s = IsPlain Atom Pattern at t s
    ⊎ ((inner : List ℕ) × IsEnclosed inner s × IsChain Atom Pattern (suc at) t inner)

-- an operand that nests at most this deep
unfoldable pub IsAtom : ℕ → ℕ → Tree → List ℕ → Type 0
IsAtom zero at t s = ⊥
IsAtom (suc k) at t s = IsOperand (IsAtom k) (IsPattern k) at t s

-- an expression that nests at most this deep
abbrev pub IsNested : ℕ → ℕ → Tree → List ℕ → Type 0
IsNested k at t s = IsChain (IsAtom k) (IsPattern k) at t s

-- An expression: the outermost one is the first of at most 64 levels. The depth is this project's own choice.
unfoldable pub IsExpr : ℕ → Tree → List ℕ → Type 0
IsExpr at t s = IsNested 64 at t s

-- a local or a global with its subscripts, as in SET, KILL or LOCK: its subscripts are one level deeper
unfoldable pub IsReference : ℕ → Tree → List ℕ → Type 0
IsReference at t s = IsAtom 64 at t s × (starts_reference s ≡ true)

-- an actual list in parentheses, as in DO and JOB: its actuals are one level deeper
unfoldable pub IsActualList : ℕ → List ActualTree → List ℕ → Type 0
IsActualList at given s = IsActuals (IsNested 63) at given s

-- a name, a label and a callee, as they occur in commands; their columns are not kept
abbrev pub IsNameText : ℕ → List ℕ → List ℕ → Type 0
IsNameText at name s = (s ≡ name) × IsName name

abbrev pub IsLabelText : ℕ → List ℕ → List ℕ → Type 0
IsLabelText at label s = (s ≡ label) × IsLabel label

abbrev pub IsCalleeText : ℕ → Callee → List ℕ → Type 0
IsCalleeText at c s = IsCallee c.label c.routine s

-- these, if not everything is allowed: in an expression; in the subscripts of a name; in an actual list, in which names by
-- reference may also be forbidden
abbrev pub IsExprWhere : Allows → ℕ → Tree → List ℕ → Type 0
IsExprWhere a = Standing (may_stand a) IsExpr

abbrev pub IsReferenceWhere : Allows → ℕ → Tree → List ℕ → Type 0
IsReferenceWhere a = Standing (subs_stand a) IsReference

abbrev pub IsActualListWhere : Allows → Passing → ℕ → List ActualTree → List ℕ → Type 0
IsActualListWhere a p = Standing (given_stand a p) IsActualList
