-- Where locals, globals and names begin.
use Rattle.std.proofs.Common.{◌≡◌, ℕ, suc, List, [], ◌∷◌, ◌++◌, drop, Some, true, false, inl, inr, refl, sym, ap, ◌∙◌, subst}
use Rattle.std.specs.Prelude.{not}
use Rattle.std.proofs.lemmas.Bool.{cases_Bool}
use Rattle.std.proofs.lemmas.Option.{same_Some}
use Rattle.mlk_expr.specs.declared.context.Allows.{Allows}
use Rattle.mlk_expr_tokens.specs.Lexemes.{starts_reference}
use Rattle.mlk_expr.specs.Grammar.{IsReference, has_subscript}
use Rattle.mlk_expr.specs.Theorem.{goes_on}
use Rattle.mlk_syntax.specs.Trees.{VariableTree, Named}
use Rattle.mlk_routine_arguments.specs.PartsRead.{Nowhere, first_of}
use Rattle.mlk_routine_arguments.specs.Ends.{VariableEnds, Begins}
use Rattle.mlk_routine_arguments.specs.CommandGrammar.{IsVariable}

pub variable_starts : (allows : Allows) (at : ℕ) (v : VariableTree) (s : List ℕ) → IsVariable allows at v s → starts_reference s ≡ true
unfolding IsReference
variable_starts allows at (Named column name) s is = is.1.0.1

pub starts_whole : (s rest : List ℕ) → starts_reference s ≡ true → starts_reference (s ++ rest) ≡ true
starts_whole [] rest h = cc h
starts_whole (b ∷ s) rest h = h

pub no_variable : (allows : Allows) (line : List ℕ) (at : ℕ) → starts_reference (drop at line) ≡ false → Nowhere (IsVariable allows) VariableEnds line at
no_variable allows line at no_start v s rest h is e =
    let bad = sym no_start ∙ ap starts_reference h ∙ starts_whole s rest (variable_starts allows (suc at) v s is) in
    cc bad

-- no local and no global begins with another byte
pub starts_lacking : (b : ℕ) → starts_reference (b ∷ []) ≡ false → (s rest : List ℕ) → starts_reference s ≡ true → first_of (s ++ rest) ≡ Some b → ⊥
starts_lacking b other [] rest start here = cc start
starts_lacking b other (c ∷ s) rest start here =
    let same = same_Some c b here in
    let bad : starts_reference (b ∷ []) ≡ true = subst (λ d. starts_reference (d ∷ []) ≡ true) same start in
    cc (other, bad)

pub variable_shut : (allows : Allows) (at : ℕ) (v : VariableTree) (s : List ℕ) → IsVariable allows at v s → Begins s
variable_shut allows at v s is = go s (variable_starts allows at v s is)
  where
    go : (s : List ℕ) → starts_reference s ≡ true → Begins s
    go [] start = cc start
    go (b ∷ s) start = (b, s, refl, λ e. starts_lacking 40 refl (b ∷ s) [] start (ap Some e))

-- a local or a global ends before what does not continue it
pub variable_before : (v : VariableTree) (rest : List ℕ) → goes_on rest ≡ false → VariableEnds v rest
variable_before (Named column name) rest h = elim (cases_Bool (has_subscript name)) [
  | inl has ↦ rw has refl
  | inr none ↦ rw none (ap not h)
]
