-- Which variables are locals.
use Rattle.std.proofs.Common.{◌≡◌, ℕ, suc, List, [], ◌∷◌, ◌++◌, drop, Some, true, inl, inr, refl, sym, ap, ◌∙◌, subst, append_assoc}
use Rattle.std.specs.Prelude.{◌==◌, ◌||◌, Result}
use Rattle.std.proofs.lemmas.Option.{same_Some}
use Rattle.mlk_text.specs.declared.failure.Failure.{Failure}
use Rattle.mlk_text.specs.declared.fault.Fault.{Fault}
use Rattle.mlk_text.specs.Lexemes.{is_letter}
use Rattle.mlk_text.specs.Spellings.{IsName}
use Rattle.mlk_text.proofs.Spelled.{name-parts}
use Rattle.mlk_expr.specs.declared.context.Allows.TheVariants.{Everything}
use Rattle.mlk_syntax.specs.ExprTrees.{Tree, Lit, Free, LocalName, GlobalName, SpecialName, Prefixed, Chain, PatternText, Func, Selected, BareCall, CallOf}
use Rattle.mlk_expr_tokens.specs.Lexemes.{starts_reference}
use Rattle.mlk_expr.specs.Grammar.{IsPlain, IsPattern, IsAtom, IsReference}
use Rattle.mlk_expr.proofs.JoinedOperands.{canonical-number}
use Rattle.mlk_expr.proofs.Joined.{number-first, sign-first}
use Rattle.mlk_syntax.specs.Trees.{VariableTree, Named}
use Rattle.mlk_routine_arguments.specs.PartsRead.{ReadsPart, Nowhere, first_of, byte_at}
use Rattle.mlk_routine_arguments.specs.Ends.{VariableEnds}
use Rattle.mlk_routine_arguments.specs.CommandGrammar.{IsVariable, IsLocal, is_local_name}
use Rattle.mlk_routine_arguments.proofs.Sequences.{narrow_told}

-- a local or a global is a local if there is no caret
plain_local : (k at : ℕ) (t : Tree) (s rest : List ℕ) → IsPlain (IsAtom k) (IsPattern k) at t s → starts_reference s ≡ true → (first_of (s ++ rest) ≡ Some 94 → ⊥) → is_local_name t ≡ true
plain_local k at (Lit value) s rest (inl same) first missing = absurd (number-first s (canonical-number s value same) first)
plain_local k at (Lit value) s rest (inr is) first missing = cc (subst (λ z. starts_reference z ≡ true) is.0 first)
plain_local k at Free s rest is first missing = absurd (number-first s is.0 first)
plain_local k at (LocalName name subs) s rest is first missing = refl
plain_local k at (GlobalName column name subs) s rest is first missing = absurd (missing (ap (λ l. first_of (l ++ rest)) is.2))
plain_local k at (SpecialName special) s rest is first missing = cc (subst (λ z. starts_reference z ≡ true) is.1 first)
plain_local k at (Prefixed op t) s rest is first missing = absurd (sign-first op is.0 (subst (λ z. starts_reference z ≡ true) is.1 first))
plain_local k at (Chain t ls) s rest is first missing = absurd is
plain_local k at (PatternText text) s rest is first missing = absurd is
plain_local k at (Func f args) s rest is first missing = cc (subst (λ z. starts_reference z ≡ true) is.4 first)
plain_local k at (Selected pairs) s rest is first missing = cc (subst (λ z. starts_reference z ≡ true) is.4 first)
plain_local k at (BareCall column callee) s rest is first missing = cc (subst (λ z. starts_reference z ≡ true) is.1 first)
plain_local k at (CallOf column callee given) s rest is first missing = cc (subst (λ z. starts_reference z ≡ true) is.3 first)

reference_local : (at : ℕ) (t : Tree) (s rest : List ℕ) → IsReference at t s → (first_of (s ++ rest) ≡ Some 94 → ⊥) → is_local_name t ≡ true
unfolding IsReference IsAtom
reference_local at t s rest (inl plain, first) missing = plain_local 63 at t s rest plain first missing
reference_local at t s rest (inr (inner, is, one), first) missing = cc (subst (λ z. starts_reference z ≡ true) is first)

-- no name begins with a caret
name_lacks : (name rest : List ℕ) → IsName name → first_of (name ++ rest) ≡ Some 94 → ⊥
name_lacks [] rest is here = cc is
name_lacks (b ∷ name) rest is here = cc (subst (λ c. (is_letter c || (c == 37)) ≡ true) (same_Some b 94 here) (name-parts b name is).0)

local_lacks : (at : ℕ) (t : Tree) (s rest : List ℕ) → is_local_name t ≡ true → IsReference at t s → first_of (s ++ rest) ≡ Some 94 → ⊥
unfolding IsReference IsAtom
local_lacks at (LocalName name subs) s rest h (inl (part, items, is, good, list, same), first) here =
    name_lacks name (part ++ rest) good (ap first_of (sym (append_assoc name part rest) ∙ ap (λ l. l ++ rest) (sym is)) ∙ here)
local_lacks at (LocalName name subs) s rest h (inr (inner, is, one), first) here = cc (subst (λ z. starts_reference z ≡ true) is first)
local_lacks at (Lit value) s rest h is here = cc h
local_lacks at Free s rest h is here = cc h
local_lacks at (GlobalName column name subs) s rest h is here = cc h
local_lacks at (SpecialName special) s rest h is here = cc h
local_lacks at (Prefixed op t) s rest h is here = cc h
local_lacks at (Chain t ls) s rest h is here = cc h
local_lacks at (PatternText text) s rest h is here = cc h
local_lacks at (Func f args) s rest h is here = cc h
local_lacks at (Selected pairs) s rest h is here = cc h
local_lacks at (BareCall column callee) s rest h is here = cc h
local_lacks at (CallOf column callee given) s rest h is here = cc h

module _ (line : List ℕ) (at : ℕ) where
  pub no_local : byte_at line at ≡ Some 94 → Nowhere IsLocal VariableEnds line at
  no_local here (Named column name) u rest h is e = local_lacks (suc at) name u rest is.1 is.0.1.0 (sym (ap first_of h) ∙ here)

  pub local_told : (byte_at line at ≡ Some 94 → ⊥) → {X : Type 0} (r : Result (X × ℕ) (Failure Fault)) (view : X → VariableTree) → ReadsPart view (IsVariable Everything) VariableEnds line at r → ReadsPart view IsLocal VariableEnds line at r
  local_told missing r view h = narrow_told (IsVariable Everything) IsLocal VariableEnds line at wide narrow r view h
    where
      wide : (v : VariableTree) (s : List ℕ) → IsLocal (suc at) v s → IsVariable Everything (suc at) v s
      wide v s is = is.0

      narrow : (v : VariableTree) (s rest : List ℕ) → drop at line ≡ s ++ rest → IsVariable Everything (suc at) v s → VariableEnds v rest → IsLocal (suc at) v s
      narrow (Named column name) s rest h is e = (is, reference_local (suc at) name s rest is.1.0 (λ here. missing (ap first_of h ∙ here)))
