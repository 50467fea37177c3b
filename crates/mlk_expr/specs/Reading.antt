-- Reading expressions, as functions on lists: the results of the code's readers. For private clauses only: the contracts of
-- public calls use `Grammar` and `Theorem`.
use Rattle.std.specs.Prelude.{ℕ, zero, suc, ◌-◌, ◌==◌, ◌&&◌, nat_le, if◌then◌else◌, Bool, true, false, not, List, []}
use Rattle.std.specs.Prelude.{◌∷◌, length, Option, Some, None, take}
use Rattle.mlk_text.specs.Reading.{◌>>=◌, with, many}
use Rattle.mlk_text.specs.Lexemes.{byte_at, word_at, name_at, label_at, inside}
use Rattle.mlk_numbers.specs.Canonical.{canonical_text}
use Rattle.mlk_text.specs.declared.operator.Op.{Op}
use Rattle.mlk_syntax.specs.declared.expr.Callee.{Callee}
use Rattle.mlk_syntax.specs.declared.expr.Function.{Function}
use Rattle.mlk_syntax.specs.declared.expr.Special.{Special}
use Rattle.mlk_expr_tokens.specs.declared.lexeme.Kind.{Kind}
use Rattle.mlk_expr_tokens.specs.declared.lexeme.Kind.TheVariants as kind
use Rattle.mlk_syntax.specs.ExprTrees.{Tree, Lit, Free, LocalName, GlobalName, SpecialName, Prefixed, PatternText, Func}
use Rattle.mlk_syntax.specs.ExprTrees.{Selected, BareCall, CallOf, ActualTree, Given, ByRef, Missing, trees_from, subs_from}
use Rattle.mlk_syntax.specs.ExprTrees.{choices_from, actuals_from}
use Rattle.mlk_expr.specs.declared.context.Allows.{Allows}
use Rattle.mlk_expr.specs.declared.context.Allows.TheVariants.{Extended, NoTouches}
use Rattle.mlk_expr.specs.declared.context.Context.{Context}
use Rattle.mlk_expr.specs.declared.context.Passing.{Passing}
use Rattle.mlk_expr.specs.declared.context.Passing.TheVariants.{ByReference}
use Rattle.mlk_expr.specs.Touches.{globals_may, calls_may, function_may, may_stand, lends}
use Rattle.mlk_expr_tokens.specs.Words.{special_of, function_of, is_select}
use Rattle.mlk_expr_tokens.specs.Lexemes.{column_of, kind_of, op_at, is_match, numeral_at, count_at, pattern_codes_at}
use Rattle.mlk_expr_tokens.specs.Lexemes.{lent_at, starts_reference, is_missing, ends}
use Rattle.mlk_expr.specs.Grammar.{chained, named, takes}

-- a reader returns what it read with the rest, or nothing
abbrev pub Reader : Type 0 → Type 0
Reader A = List ℕ → Option (A × List ℕ)

-- what was read, if it is allowed
abbrev pub kept : {A : Type 0} → (A → Bool) → Option (A × List ℕ) → Option (A × List ℕ)
kept may None = None
kept may (Some r) = if may r.0 then Some r else None

-- nothing, if nothing is allowed
abbrev pub where_may : {A : Type 0} → Bool → Option A → Option A
where_may true read = read
where_may false read = None

-- the tree of a numeric literal
abbrev pub number_by : Option (List ℕ) → Tree
number_by None = Free
number_by (Some value) = Lit value

abbrev pub number_of : List ℕ → Tree
number_of text = number_by (canonical_text text)

-- lists in parentheses
abbrev pub next : {A : Type 0} → Reader A → ℕ → Reader A
next item comma xs = item xs

unfoldable pub list_with : {A : Type 0} → Reader A → Reader (List A)
list_with item xs =
    item xs >>= λ first.
    many (byte_at 44) (next item) (suc (length first.1)) first.1 >>= λ others.
    with (λ _. first.0 ∷ others.0) (byte_at 41 others.1)

-- at most `most` items
abbrev pub at_most : {A : Type 0} → ℕ → List A × List ℕ → Option (List A × List ℕ)
at_most most r = if nat_le (length r.0) most then Some r else None

abbrev pub few : {A : Type 0} → ℕ → Option (List A × List ℕ) → Option (List A × List ℕ)
few most read = read >>= at_most most

-- patterns
abbrev pub matcher_by : Reader (List ℕ) → List ℕ → Reader (List ℕ)
matcher_by deep count [] = None
matcher_by deep count (b ∷ xs) =
    if b == 34 then with (λ _. count) (inside xs)
    else if b == 40 then with (λ _. count) (list_with deep xs)
    else with (λ _. count) (pattern_codes_at (b ∷ xs))

abbrev pub some_atoms : List ℕ → List (List ℕ) × List ℕ → Option (List ℕ × List ℕ)
some_atoms xs ([], rest) = None
some_atoms xs (c ∷ cs, rest) = Some (take (length xs - length rest) xs, rest)

unfoldable pub pattern_at : ℕ → Reader (List ℕ)
pattern_at zero xs = None
pattern_at (suc k) xs = many count_at (matcher_by (pattern_at k)) (suc (length xs)) xs >>= some_atoms xs

-- chains: the right operand of an operator, and the rest of an expression after its first operand
abbrev pub right_by : Reader Tree → Reader (List ℕ) → Bool → Reader Tree
right_by atom pattern false xs = atom xs
right_by atom pattern true xs = with PatternText (pattern xs)

abbrev pub linked : Reader Tree → Reader (List ℕ) → Op → Reader (Op × Tree)
linked atom pattern op xs = with (λ t. (op, t)) (right_by atom pattern (is_match op) xs)

abbrev pub chain_after : Reader Tree → Reader (List ℕ) → Tree → Reader Tree
chain_after atom pattern first xs =
    many op_at (linked atom pattern) (suc (length xs)) xs >>= λ rest. Some (chained first rest.0, rest.1)

unfoldable pub chain_with : Reader Tree → Reader (List ℕ) → Reader Tree
chain_with atom pattern xs = atom xs >>= λ first. chain_after atom pattern first.0 first.1

-- subscripts
abbrev pub placed : ℕ → Reader Tree → Reader (ℕ × Tree)
placed end item xs = with (λ t. (column_of end xs, t)) (item xs)

abbrev pub subs_by : ℕ → Reader Tree → List ℕ → Option (ℕ × List ℕ) → Option (List (ℕ × Tree) × List ℕ)
subs_by end item xs None = Some ([], xs)
subs_by end item xs (Some open') = list_with (placed end item) open'.1 >>= at_most 32

unfoldable pub subs_with : ℕ → Reader Tree → Reader (List (ℕ × Tree))
subs_with end item xs = subs_by end item xs (byte_at 40 xs)

-- actuals
abbrev pub actual_by : Passing → ℕ → Reader Tree → List ℕ → Option (List ℕ × List ℕ) → Option (ActualTree × List ℕ)
actual_by passing end item xs (Some n) = where_may (lends passing) (Some (ByRef (column_of end xs) n.0, n.1))
actual_by passing end item xs None = if is_missing xs then Some (Missing, xs) else with Given (item xs)

unfoldable pub actual_with : Passing → ℕ → Reader Tree → Reader ActualTree
actual_with passing end item xs = actual_by passing end item xs (lent_at xs)

abbrev pub actuals_by : Passing → ℕ → Reader Tree → List ℕ → Option (ℕ × List ℕ) → Option (List ActualTree × List ℕ)
actuals_by passing end item xs (Some close) = Some ([], close.1)
actuals_by passing end item xs None = list_with (actual_with passing end item) xs

unfoldable pub actuals_with : Passing → ℕ → Reader Tree → Reader (List ActualTree)
actuals_with passing end item xs = actuals_by passing end item xs (byte_at 41 xs)

-- calls
abbrev pub label_alone : List ℕ → Callee
label_alone label = record { label = Some label; routine = None }

abbrev pub label_in : List ℕ → List ℕ → Callee
label_in label routine = record { label = Some label; routine = Some routine }

abbrev pub routine_alone : List ℕ → Callee
routine_alone routine = record { label = None; routine = Some routine }

abbrev pub routine_by : List ℕ → List ℕ → Option (ℕ × List ℕ) → Option (Callee × List ℕ)
routine_by label rest None = Some (label_alone label, rest)
routine_by label rest (Some caret) = with (label_in label) (name_at caret.1)

abbrev pub callee_by : List ℕ → Option (ℕ × List ℕ) → Option (Callee × List ℕ)
callee_by xs (Some caret) = with routine_alone (name_at caret.1)
callee_by xs None = label_at xs >>= λ label. routine_by label.0 label.1 (byte_at 94 label.1)

unfoldable pub callee_at : List ℕ → Option (Callee × List ℕ)
callee_at xs = callee_by xs (byte_at 94 xs)

abbrev pub call_by : ℕ → Reader Tree → ℕ → Callee → List ℕ → Option (ℕ × List ℕ) → Option (Tree × List ℕ)
call_by end item column callee rest None = Some (BareCall column callee, rest)
call_by end item column callee rest (Some open') =
    with (λ given. CallOf column callee (actuals_from given)) (actuals_with ByReference end item open'.1)

unfoldable pub call_with : Bool → ℕ → Reader Tree → ℕ → Reader Tree
call_with may end item column xs = where_may may (callee_at xs) >>=
    λ callee. call_by end item column callee.0 callee.1 (byte_at 40 callee.1)

-- functions
abbrev pub choice_with : Reader Tree → Reader (Tree × Tree)
choice_with item xs = item xs >>= λ condition. byte_at 58 condition.1 >>=
    λ colon. with (λ value. (condition.0, value)) (item colon.1)

abbrev pub others_by : ℕ → Tree → List Tree × List ℕ → Option (List Tree × List ℕ)
others_by most first others = if nat_le (length others.0) most then with (λ _. first ∷ others.0) (byte_at 41 others.1)
    else None

abbrev pub name_and : Reader Tree → Function → ℕ → Tree × List ℕ → Option (List Tree × List ℕ)
name_and item f most first =
    if takes f first.0 then many (byte_at 44) (next item) (suc (length first.1)) first.1 >>= others_by most first.0
    else None

-- `quiet` reads the arguments after a name
abbrev pub arguments_by : Reader Tree → Reader Tree → Reader Tree → Function → Option ℕ → Reader (List Tree)
arguments_by atom item quiet f None xs = list_with item xs
arguments_by atom item quiet f (Some most) xs = if starts_reference xs then atom xs >>= name_and quiet f most else None

unfoldable pub arguments_with : Reader Tree → Reader Tree → Reader Tree → Function → Reader (List Tree)
arguments_with atom item quiet f xs = arguments_by atom item quiet f (named f) xs

unfoldable pub function_with : Allows → Reader Tree → Reader Tree → Reader Tree → List ℕ → Reader Tree
function_with a atom item quiet w xs =
    if is_select w then with (λ cs. Selected (choices_from cs)) (list_with (choice_with item) xs)
    else function_of w >>= λ f. where_may (function_may a f)
    (with (λ ts. Func f (trees_from ts)) (arguments_with atom item quiet f xs))

abbrev pub special_by : Option Special → Reader Tree
special_by None rest = None
special_by (Some special) rest = Some (SpecialName special, rest)

abbrev pub word_by : Allows → Reader Tree → Reader Tree → Reader Tree → List ℕ
    × List ℕ → Option (ℕ × List ℕ) → Option (Tree × List ℕ)
word_by a atom item quiet w None = special_by (special_of w.0) w.1
word_by a atom item quiet w (Some open') = function_with a atom item quiet w.0 open'.1

abbrev pub dollar_by : Allows → ℕ → Reader Tree → Reader Tree → Reader Tree → ℕ → List ℕ → Option (ℕ
    × List ℕ) → Option (Tree × List ℕ)
dollar_by a end atom item quiet column xs (Some dollar) = call_with (calls_may a) end item column dollar.1
dollar_by a end atom item quiet column xs None = word_by a atom item quiet (word_at xs) (byte_at 40 (word_at xs).1)

unfoldable pub dollar_with : Allows → ℕ → Reader Tree → Reader Tree → Reader Tree → ℕ → Reader Tree
dollar_with a end atom item quiet column xs = dollar_by a end atom item quiet column xs (byte_at 36 xs)

-- names
abbrev pub local_with : ℕ → Reader Tree → Reader Tree
local_with end item xs = name_at xs >>= λ name. with (λ ss. LocalName name.0 (subs_from ss)) (subs_with end item name.1)

abbrev pub global_with : Bool → ℕ → ℕ → Reader Tree → Reader Tree
global_with may end column item xs = where_may may (name_at xs) >>=
    λ name. with (λ ss. GlobalName column name.0 (subs_from ss)) (subs_with end item name.1)

-- an expression and a closing parenthesis
abbrev pub enclosed_with : Reader Tree → Reader Tree
enclosed_with item xs = item xs >>= λ inner. with (λ _. inner.0) (byte_at 41 inner.1)

-- an operand, by its first byte; `deep` reads what is one level deeper
abbrev pub atom_by : Allows → ℕ → Reader Tree → Reader Tree → Reader (List ℕ) → Kind → ℕ → Reader Tree
atom_by a end deep quiet pattern kind.Numeral b xs = with number_of (numeral_at (b ∷ xs))
atom_by a end deep quiet pattern kind.Quote b xs = with Lit (inside xs)
atom_by a end deep quiet pattern kind.Letter b xs = local_with end (chain_with deep pattern) (b ∷ xs)
atom_by a end deep quiet pattern kind.Caret b xs =
    global_with (globals_may a) end (column_of end (b ∷ xs)) (chain_with deep pattern) xs
atom_by a end deep quiet pattern kind.Dollar b xs =
    dollar_with a end deep (chain_with deep pattern) quiet (column_of end (b ∷ xs)) xs
atom_by a end deep quiet pattern kind.Open b xs = enclosed_with (chain_with deep pattern) xs
atom_by a end deep quiet pattern (kind.Prefix op) b xs = with (Prefixed op) (deep xs)
atom_by a end deep quiet pattern kind.Other b xs = None

abbrev pub operand_with : Allows → ℕ → Reader Tree → Reader Tree → Reader (List ℕ) → Reader Tree
operand_with a end deep quiet pattern [] = None
operand_with a end deep quiet pattern (b ∷ xs) = atom_by a end deep quiet pattern (kind_of b) b xs

-- the same reading, of something without globals and calls
abbrev pub quietly : Reader Tree → Reader Tree
quietly item xs = kept (may_stand NoTouches) (item xs)

unfoldable pub atom_at : ℕ → ℕ → Reader Tree
atom_at end zero xs = None
atom_at end (suc k) xs =
    operand_with Extended end (atom_at end k) (quietly (chain_with (atom_at end k) (pattern_at k))) (pattern_at k) xs

-- `atom_at` where a reader is
unfoldable pub atom_in : Context → Reader Tree
atom_in here xs = kept (may_stand here.allows) (atom_at here.end here.left xs)

abbrev pub nested_in : Context → Reader Tree
nested_in here xs = chain_with (atom_in here) (pattern_at here.left) xs

abbrev pub quiet : Context → Context
quiet here = record { end = here.end; left = here.left; allows = NoTouches }

abbrev pub operand_in : Context → Reader Tree
operand_in here xs = operand_with here.allows here.end (atom_in here) (nested_in (quiet here)) (pattern_at here.left) xs

-- an expression that nests at most k deep
abbrev pub nested_at : ℕ → ℕ → Reader Tree
nested_at end k xs = chain_with (atom_at end k) (pattern_at k) xs

-- a name with its subscripts, and an actual list in parentheses
unfoldable pub reference_at : ℕ → Reader Tree
reference_at end xs = if starts_reference xs then atom_at end 64 xs else None

abbrev pub after_open : ℕ → Option (ℕ × List ℕ) → Option (List ActualTree × List ℕ)
after_open end None = None
after_open end (Some open') = actuals_with ByReference end (chain_with (atom_at end 63) (pattern_at 63)) open'.1

unfoldable pub actual_list_at : ℕ → Reader (List ActualTree)
actual_list_at end xs = after_open end (byte_at 40 xs)

-- the rest after what was read
abbrev pub rest_of : {A : Type 0} → Option (A × List ℕ) → Option (List ℕ)
rest_of None = None
rest_of (Some r) = Some r.1

-- an expression that may end here
abbrev pub ended : Tree × List ℕ → Option (Tree × List ℕ)
ended r = if ends r.1 then Some r else None

unfoldable pub expr_at : ℕ → Reader Tree
expr_at end xs = nested_at end 64 xs >>= ended

-- an expression that may end here, where a reader is
unfoldable pub expr_in : Context → Reader Tree
expr_in here xs = nested_in here xs >>= ended

abbrev pub reference_by : Context → List ℕ → Option (ℕ × List ℕ) → Option (Tree × List ℕ)
reference_by here xs (Some caret) = global_with true here.end (column_of here.end xs) (nested_in here) caret.1
reference_by here xs None = if starts_reference xs then local_with here.end (nested_in here) xs else None

unfoldable pub reference_in : Context → Reader Tree
reference_in here xs = reference_by here xs (byte_at 94 xs)

abbrev pub list_by : Passing → Context → Option (ℕ × List ℕ) → Option (List ActualTree × List ℕ)
list_by passing here None = None
list_by passing here (Some open') = actuals_with passing here.end (nested_in here) open'.1

unfoldable pub actual_list_in : Passing → Context → Reader (List ActualTree)
actual_list_in passing here xs = list_by passing here (byte_at 40 xs)
