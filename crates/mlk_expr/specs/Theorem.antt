-- The laws of the grammar, and the results of its readers.
use Rattle.std.specs.Prelude.{ℕ, suc, ◌≡◌, ◌≤◌, nat_le, ◌&&◌, ◌||◌, not, is_some, if◌then◌else◌, Option, Some}
use Rattle.std.specs.Prelude.{None, Bool, true, false, List, [], ◌∷◌, ◌++◌, length, drop, ◌==◌}
use Rattle.mlk_text.specs.Lexemes.{is_digit, is_name_byte}
use Rattle.mlk_text.specs.Places.{column_at}
use Rattle.mlk_text.specs.Codes.{number_of}
use Rattle.mlk_text.specs.declared.fault.Fault.{Fault}
use Rattle.mlk_expr.specs.declared.context.Passing.{Passing}
use Rattle.mlk_syntax.specs.declared.expr.Callee.{Callee}
use Rattle.mlk_expr.specs.Touches.{lends}
use Rattle.mlk_text.specs.declared.failure.Failure.{Failure}
use Rattle.mlk_text.specs.declared.failure.Failure.TheVariants.{OutOfMemory, Refused}
use Rattle.mlk_syntax.specs.ExprTrees.{Tree, ActualTree}
use Rattle.mlk_expr_tokens.specs.Lexemes.{ends}
use Rattle.mlk_expr.specs.Grammar.{has_subscript, IsExpr, IsReference, IsActualList}

-- What may follow an expression: the line's end, or one of the bytes that end one;
abbrev pub ExprEnds : Tree → List ℕ → Type 0
ExprEnds t ys = ends ys ≡ true

-- after a name without subscripts: nothing that would continue it, and no subscripts;
abbrev pub goes_on : List ℕ → Bool
goes_on [] = false
goes_on (b ∷ ys) = is_name_byte b || (b == 40)

abbrev pub ReferenceEnds : Tree → List ℕ → Type 0
ReferenceEnds t ys = (has_subscript t || not (goes_on ys)) ≡ true

-- after an actual list: anything;
abbrev pub ListEnds : List ActualTree → List ℕ → Type 0
ListEnds given ys = Unit {0}

-- after a name or a label: nothing that would continue it, which for digits is a digit;
abbrev pub label_ends : List ℕ → List ℕ → Bool
label_ends [] ys = true
label_ends (d ∷ label) [] = true
label_ends (d ∷ label) (b ∷ ys) = not (if is_digit d then is_digit b else is_name_byte b)

abbrev pub LabelEnds : List ℕ → List ℕ → Type 0
LabelEnds label ys = label_ends label ys ≡ true

-- after a callee: nothing that would continue its last part, and no caret after a label alone.
abbrev pub starts_caret : List ℕ → Bool
starts_caret [] = false
starts_caret (b ∷ ys) = b == 94

abbrev pub callee_ends : Option (List ℕ) → Option (List ℕ) → List ℕ → Bool
callee_ends label (Some routine) ys = label_ends routine ys
callee_ends (Some label) None ys = label_ends label ys && not (starts_caret ys)
callee_ends None None ys = true

abbrev pub CalleeEnds : Callee → List ℕ → Type 0
CalleeEnds c ys = callee_ends c.label c.routine ys ≡ true

-- A thing is spelled by the text of a line from `at` up to `next`, and may end there.
pub record Stands {A : Type 0} (Is : ℕ → A → List ℕ → Type 0) (Ends : A → List ℕ
    → Type 0) (line : List ℕ) (at : ℕ) (a : A) (next : ℕ) : Type 0 where
  pub text : List ℕ
  pub within : next ≤ length line
  pub joined : drop at line ≡ text ++ drop next line
  pub spelled : Is (suc at) a text
  pub ended : Ends a (drop next line)

-- Nothing else is.
abbrev pub Only : {A : Type 0} → (ℕ → A → List ℕ → Type 0) → (A → List ℕ → Type 0) → List ℕ → ℕ → A → ℕ → Type 0
Only {A = A} Is Ends line at a next = (b : A) (text rest : List ℕ) → drop at line ≡ text ++ rest → Is (suc at) b text
    → Ends b rest → (b ≡ a) × (rest ≡ drop next line)

-- Nothing of this kind is here, unless memory ran out.
abbrev pub Refuses : {A : Type 0} → (ℕ → A → List ℕ → Type 0) → (A → List ℕ → Type 0) → List ℕ → ℕ → Failure Fault → Type 0
Refuses Is Ends line at OutOfMemory = Unit {0}
Refuses {A = A} Is Ends line at (Refused fault) = (a : A) (text rest : List ℕ) → drop at line ≡ text ++ rest
    → Is (suc at) a text → Ends a rest → ⊥

-- The numbers of the codes: 101 to 104, and 207 if names may not be passed by reference.
abbrev pub is_expression_code : Passing → ℕ → Bool
is_expression_code p n = (nat_le 101 n && nat_le n 104) || (not (lends p) && (n == 207))

-- A fault of a text that is read from the byte `at` of a line on. It has a word exactly if something is not read. Its column is
-- after that byte, up to the greatest column, and at most one past the line's end.
pub record IsFault (p : Passing) (line : List ℕ) (at : ℕ) (fault : Fault) : Type 0 where
  pub coded : is_expression_code p (number_of fault.code) ≡ true
  pub worded : is_some fault.left_out ≡ (number_of fault.code == 102)
  pub unnamed : fault.place.routine ≡ []
  pub on_line : fault.place.line ≡ 1
  pub after : column_at (suc at) ≤ fault.place.column
  pub within : fault.place.column ≤ suc (length line)

abbrev pub Faults : Passing → List ℕ → ℕ → Failure Fault → Type 0
Faults p line at OutOfMemory = Unit {0}
Faults p line at (Refused fault) = IsFault p line at fault

-- What is at a place has at most one tree and one end, however a line is split into a text and the rest: an expression, a name
-- with its subscripts, an actual list. A whole text has at most one tree.
abbrev pub One : {A : Type 0} → (ℕ → A → List ℕ → Type 0) → (A → List ℕ → Type 0) → Type 0
One {A = A} Is Ends = (at : ℕ) (a b : A) (s t ys zs : List ℕ) → s ++ ys ≡ t ++ zs → Is at a s → Ends a ys → Is at b t
    → Ends b zs → (a ≡ b) × (ys ≡ zs)

pub record OneTree : Type 0 where
  pub expressions : One IsExpr ExprEnds
  pub references : One IsReference ReferenceEnds
  pub actuals : One IsActualList ListEnds
