-- The grammar with what follows each part and the grammar of whole texts agree on what is at a place.
use Rattle.std.proofs.Common.{◌≡◌, ◌<◌, ◌+◌, ℕ, suc, ◌++◌, List, [], ◌∷◌, length, Some, None, true, false, refl, sym, ap, ◌∙◌, arith, subst, inl, inr, append_assoc}
use Rattle.std.specs.Prelude.{Option, ◌⊎◌, ◌==◌, ◌||◌, not}
use Rattle.std.proofs.lemmas.Bool.{cases_Bool, and_parts}
use Rattle.std.proofs.lemmas.Bool.Decides.{nat_tests}
use Rattle.mlk_text.specs.declared.operator.UnaryOp.{UnaryOp}
use Rattle.mlk_text.specs.declared.operator.UnaryOp.TheVariants as unary
use Rattle.mlk_text.specs.Lexemes.{is_digit, is_letter, byte_at, are_digits}
use Rattle.mlk_text.proofs.Readers.{Exact, one_reading}
use Rattle.mlk_syntax.specs.ExprTrees.{Tree, Lit, Free, LocalName, GlobalName, SpecialName, Prefixed, Chain, PatternText, Func, Selected, BareCall, CallOf, subs_from}
use Rattle.mlk_expr_tokens.specs.Lexemes.{numeral_at, starts_reference, ends}
use Rattle.mlk_expr.specs.Spellings.{IsNumber, unary_text}
use Rattle.mlk_expr.specs.Grammar.{IsChain, IsPlain, IsOperand, IsPattern, IsAtom, IsExpr, IsReference, IsActualList}
use Rattle.mlk_expr.specs.Theorem.{ExprEnds, goes_on, ReferenceEnds, ListEnds, One}
use Rattle.mlk_expr.proofs.Followed as followed
use Rattle.mlk_expr.proofs.Runs.{after_name}
use Rattle.mlk_expr.proofs.OperatorSpelling.{unary-spelled}
use Rattle.mlk_text.proofs.Spelled.{name-spelled}
use Rattle.mlk_expr.proofs.NumberSpelling.{number-spelled}
use Rattle.mlk_expr.proofs.JoinedParts.{Joins}
use Rattle.mlk_expr.proofs.JoinedArguments.{at-column, starts-front, actuals-apart, actuals-together}
use Rattle.mlk_expr.proofs.JoinedPatterns.{pattern-joins}
use Rattle.mlk_expr.proofs.JoinedOperands.{canonical-number, number-opens, variable-together, atom-joins, atom-opens, nested-joins, nested-opens}

-- The two grammars agree on a kind of thing.
pub record Same {A : Type 0} (Is : ℕ → A → List ℕ → List ℕ → Type 0) (Text : ℕ → A → List ℕ → Type 0) (Ends : A → List ℕ → Type 0) : Type 0 where
  pub apart : (end at : ℕ) (a : A) (xs ys : List ℕ) → end ≡ at + length xs → Is end a xs ys → (s : List ℕ) × (xs ≡ s ++ ys) × Text at a s × Ends a ys
  pub together : (end at : ℕ) (a : A) (s ys : List ℕ) → end ≡ at + length (s ++ ys) → Text at a s → Ends a ys → Is end a (s ++ ys) ys

pub same-expr : Same followed.IsExpr IsExpr ExprEnds
unfolding IsExpr followed.IsExpr
same-expr = record {
  apart = λ end at t xs ys h (one, ended). let f = (nested-joins end 64).apart at t xs ys h one in (f.0, f.1, f.2, ended);
  together = λ end at t s ys h one ended. ((nested-joins end 64).together at t s ys h one ended, ended);
}

pub same-list : Same followed.IsActualList IsActualList ListEnds
unfolding IsActualList followed.IsActualList
same-list = record {
  apart = λ end at given xs ys h (m, is, list).
      let size = ap length is in
      let f = actuals-apart end (followed.IsChain (followed.IsAtom end 63) (followed.IsPattern 63)) (IsChain (IsAtom 63) (IsPattern 63)) (nested-joins end 63) (nested-opens end 63) at given m ys (omega arith) list in
      (f.0, is ∙ f.1, f.2, tt);
  together = λ end at given s ys h one ended.
      actuals-together end (followed.IsChain (followed.IsAtom end 63) (followed.IsPattern 63)) (IsChain (IsAtom 63) (IsPattern 63)) (nested-joins end 63) (nested-opens end 63) at given s ys h one;
}

-- no number begins like a name
pub number-first : (s : List ℕ) → IsNumber s → starts_reference s ≡ true → ⊥
number-first s (before, after, mantissa, exponent, n, e, is) h = go before after n.whole_part n.some_digit n.spelled
  where
    digit : (d : ℕ) (ds rest : List ℕ) → are_digits (d ∷ ds) ≡ true → starts_reference (d ∷ rest) ≡ true → ⊥
    digit d ds rest all starts =
        let one : is_digit d ≡ true = (and_parts (is_digit d) (are_digits ds) all).0 in
        let no : (is_letter d || (d == 37) || (d == 94)) ≡ false = grind (arith, nat_tests) in
        cc (starts, no)

    go : (before after : List ℕ) → are_digits before ≡ true → 0 < length before + length after → ((mantissa ≡ before) × (after ≡ [])) ⊎ (mantissa ≡ before ++ 46 ∷ after) → ⊥
    go (d ∷ ds) after all some (inl f) = digit d ds (ds ++ exponent) all (subst (λ z. starts_reference z ≡ true) (is ∙ ap (λ z. z ++ exponent) (f.0)) h)
    go (d ∷ ds) after all some (inr f) = digit d ds ((ds ++ 46 ∷ after) ++ exponent) all (subst (λ z. starts_reference z ≡ true) (is ∙ ap (λ z. z ++ exponent) f) h)
    go [] [] all some (inl f) = absurd (omega arith)
    go [] (d ∷ ds) all some (inl f) = cc (f.1)
    go [] after all some (inr f) = let e : s ≡ 46 ∷ (after ++ exponent) = is ∙ ap (λ z. z ++ exponent) f in cc (subst (λ z. starts_reference z ≡ true) e h)

numeral-reference : (text xs ys : List ℕ) → numeral_at xs ≡ Some (text, ys) → starts_reference xs ≡ true → ⊥
numeral-reference text xs ys n h =
    let f = number-spelled text xs ys n in
    number-first text f.0 (sym (starts-front text ys (number-opens text f.0)) ∙ ap starts_reference (sym (f.1)) ∙ h)

-- nothing that follows a name without subscripts continues it
quiet-from : (subs : List (ℕ × Tree)) (name ys : List ℕ) → ReferenceEnds (LocalName name (subs_from subs)) ys → subs ≡ [] → goes_on ys ≡ false
quiet-from [] name ys h same = elim (cases_Bool (goes_on ys)) [ inl e ↦ cc (rw e at h) | inr e ↦ e ]
quiet-from (p ∷ subs) name ys h same = cc same

ends-from : (end : ℕ) (Is : Tree → List ℕ → List ℕ → Type 0) (subs : List (ℕ × Tree)) (name m ys : List ℕ) → after_name m ≡ true → followed.IsSubs end Is subs m ys → ReferenceEnds (LocalName name (subs_from subs)) ys
ends-from end Is [] name m ys quiet (is, none) = go ys (subst (λ z. after_name z ≡ true) is quiet) (subst (λ z. byte_at 40 z ≡ None) is none)
  where
    go : (zs : List ℕ) → after_name zs ≡ true → byte_at 40 zs ≡ None → (not (goes_on zs)) ≡ true
    go [] q n = refl
    go (b ∷ zs) q n = elim (cases_Bool (b == 40)) [ inl e ↦ cc (rw e at n) | inr e ↦ grind (arith, nat_tests) ]
ends-from end Is (p ∷ subs) name m ys quiet list = refl

global-local : (column : ℕ) (name : List ℕ) (subs : List (ℕ × Tree)) (ys : List ℕ) → ReferenceEnds (GlobalName column name (subs_from subs)) ys → ReferenceEnds (LocalName name (subs_from subs)) ys
global-local column name [] ys h = h
global-local column name (p ∷ subs) ys h = refl

pub sign-first : (o : UnaryOp) (s : List ℕ) → starts_reference (unary_text o ++ s) ≡ true → ⊥
sign-first unary.Plus s h = cc h
sign-first unary.Minus s h = cc h
sign-first unary.Not s h = cc h

local-global : (column : ℕ) (name : List ℕ) (subs : List (ℕ × Tree)) (ys : List ℕ) → ReferenceEnds (LocalName name (subs_from subs)) ys → ReferenceEnds (GlobalName column name (subs_from subs)) ys
local-global column name [] ys h = h
local-global column name (p ∷ subs) ys h = refl

-- a local or a global name may be followed by what does not continue it
module _ (end k : ℕ) where
  chains : Joins end (followed.IsChain (followed.IsAtom end k) (followed.IsPattern k)) (IsChain (IsAtom k) (IsPattern k)) ends
  chains = nested-joins end k

  plain-reference : (at : ℕ) (t : Tree) (s ys : List ℕ) → end ≡ at + length (s ++ ys) → IsPlain (IsAtom k) (IsPattern k) at t s → starts_reference s ≡ true → ReferenceEnds t ys
      → followed.IsPlain end (followed.IsAtom end k) (followed.IsPattern k) t (s ++ ys) ys
  plain-reference at (Lit value) s ys h (inl same) first ended = absurd (number-first s (canonical-number s value same) first)
  plain-reference at (Lit value) s ys h (inr (is, good)) first ended = cc (subst (λ z. starts_reference z ≡ true) is first)
  plain-reference at Free s ys h (number, none) first ended = absurd (number-first s number first)
  plain-reference at (LocalName name subs) s ys h (part, ss, is, good, list, same) first ended =
      let whole : s ++ ys ≡ name ++ (part ++ ys) = ap (λ l. l ++ ys) is ∙ append_assoc name part ys in
      let quiet = quiet-from ss name ys (subst (λ z. ReferenceEnds (LocalName name z) ys) same ended) in
      let f = variable-together end (followed.IsAtom end k) (IsAtom k) (atom-joins end k) (atom-opens end k) (followed.IsPattern k) (IsPattern k) (pattern-joins k) at name part ys ss (h ∙ ap (λ z. at + length z) whole) good list quiet in
      subst (λ z. followed.IsPlain end (followed.IsAtom end k) (followed.IsPattern k) (LocalName name subs) z ys) (sym whole) (part ++ ys, ss, f.0, f.1, same)
  plain-reference at (GlobalName column name subs) s ys h (part, ss, is, col, good, list, same) first ended =
      let whole : s ++ ys ≡ 94 ∷ (name ++ (part ++ ys)) = ap (λ l. l ++ ys) is ∙ ap (λ l. 94 ∷ l) (append_assoc name part ys) in
      let size = ap length whole in
      let quiet = quiet-from ss name ys (global-local column name ss ys (subst (λ z. ReferenceEnds (GlobalName column name z) ys) same ended)) in
      let f = variable-together end (followed.IsAtom end k) (IsAtom k) (atom-joins end k) (atom-opens end k) (followed.IsPattern k) (IsPattern k) (pattern-joins k) (suc at) name part ys ss (omega arith) good list quiet in
      (name ++ (part ++ ys), part ++ ys, ss, whole, col ∙ sym (at-column end at (s ++ ys) h), f.0, f.1, same)
  plain-reference at (SpecialName special) s ys h (w, is, word, found) first ended = cc (subst (λ z. starts_reference z ≡ true) is first)
  plain-reference at (Prefixed op t) s ys h (operand, is, deep) first ended = absurd (sign-first op operand (subst (λ z. starts_reference z ≡ true) is first))
  plain-reference at (Chain t ls) s ys h none first ended = absurd none
  plain-reference at (PatternText text) s ys h none first ended = absurd none
  plain-reference at (Func f args) s ys h (w, inner, part, ts, is, word, found, held, list, same) first ended = cc (subst (λ z. starts_reference z ≡ true) is first)
  plain-reference at (Selected pairs) s ys h (w, inner, part, cs, is, word, found, held, list, same) first ended = cc (subst (λ z. starts_reference z ≡ true) is first)
  plain-reference at (BareCall column callee) s ys h (called, is, col, name) first ended = cc (subst (λ z. starts_reference z ≡ true) is first)
  plain-reference at (CallOf column callee tail) s ys h (called, part, given, is, col, name, list, same) first ended = cc (subst (λ z. starts_reference z ≡ true) is first)

  -- and what follows one does not continue it
  plain-ended : (t : Tree) (xs ys : List ℕ) → followed.IsPlain end (followed.IsAtom end k) (followed.IsPattern k) t xs ys → starts_reference xs ≡ true → ReferenceEnds t ys
  plain-ended (Lit value) xs ys (inl (text, n, same)) first = absurd (numeral-reference text xs ys n first)
  plain-ended (Lit value) xs ys (inr (is, good, none)) first = cc (subst (λ z. starts_reference z ≡ true) is first)
  plain-ended Free xs ys (text, n, none) first = absurd (numeral-reference text xs ys n first)
  plain-ended (LocalName name subs) xs ys (m, ss, n, list, same) first =
      subst (λ z. ReferenceEnds (LocalName name z) ys) (sym same) (ends-from end (followed.IsChain (followed.IsAtom end k) (followed.IsPattern k)) ss name m ys ((name-spelled name xs m n).2) list)
  plain-ended (GlobalName column name subs) xs ys (m, n, ss, is, col, text, list, same) first =
      subst (λ z. ReferenceEnds (GlobalName column name z) ys) (sym same)
      (local-global column name ss ys (ends-from end (followed.IsChain (followed.IsAtom end k) (followed.IsPattern k)) ss name n ys ((name-spelled name m n text).2) list))
  plain-ended (SpecialName special) xs ys (m, w, is, word, found, none) first = cc (subst (λ z. starts_reference z ≡ true) is first)
  plain-ended (Prefixed op t) xs ys (b, m, is, o, deep) first = absurd (sign-first op m (subst (λ z. starts_reference z ≡ true) (is ∙ sym (ap (λ l. l ++ m) (unary-spelled op b o))) first))
  plain-ended (Chain t ls) xs ys none first = absurd none
  plain-ended (PatternText text) xs ys none first = absurd none
  plain-ended (Func f args) xs ys (m, n, w, ts, is, word, found, list, same) first = cc (subst (λ z. starts_reference z ≡ true) is first)
  plain-ended (Selected pairs) xs ys (m, n, w, cs, is, word, found, list, same) first = cc (subst (λ z. starts_reference z ≡ true) is first)
  plain-ended (BareCall column callee) xs ys (m, is, col, called, none) first = cc (subst (λ z. starts_reference z ≡ true) is first)
  plain-ended (CallOf column callee tail) xs ys (m, n, given, is, col, called, list, same) first = cc (subst (λ z. starts_reference z ≡ true) is first)

  operand-reference : (at : ℕ) (t : Tree) (s ys : List ℕ) → end ≡ at + length (s ++ ys) → IsOperand (IsAtom k) (IsPattern k) at t s → starts_reference s ≡ true → ReferenceEnds t ys
      → followed.IsOperand end (followed.IsAtom end k) (followed.IsPattern k) t (s ++ ys) ys
  operand-reference at t s ys h (inl one) first ended = inl (plain-reference at t s ys h one first ended)
  operand-reference at t s ys h (inr (inner, is, one)) first ended = cc (subst (λ z. starts_reference z ≡ true) is first)

  operand-ended : (t : Tree) (xs ys : List ℕ) → followed.IsOperand end (followed.IsAtom end k) (followed.IsPattern k) t xs ys → starts_reference xs ≡ true → ReferenceEnds t ys
  operand-ended t xs ys (inl one) first = plain-ended t xs ys one first
  operand-ended t xs ys (inr (m, is, one)) first = cc (subst (λ z. starts_reference z ≡ true) is first)

  atom-reference : (at : ℕ) (t : Tree) (s ys : List ℕ) → end ≡ at + length (s ++ ys) → IsAtom (suc k) at t s → starts_reference s ≡ true → ReferenceEnds t ys → followed.IsAtom end (suc k) t (s ++ ys) ys
  unfolding IsAtom followed.IsAtom
  atom-reference = operand-reference

  atom-ended : (t : Tree) (xs ys : List ℕ) → followed.IsAtom end (suc k) t xs ys → starts_reference xs ≡ true → ReferenceEnds t ys
  unfolding followed.IsAtom
  atom-ended = operand-ended

pub same-reference : Same followed.IsReference IsReference ReferenceEnds
unfolding IsReference followed.IsReference
same-reference = record {
  apart = λ end at t xs ys h (one, first).
      let f = (atom-joins end 64).apart at t xs ys h one in
      let name = sym (starts-front f.0 ys (atom-opens end 64 at t f.0 f.2)) ∙ ap starts_reference (sym (f.1)) ∙ first in
      (f.0, f.1, (f.2, name), atom-ended end 63 t xs ys one first);
  together = λ end at t s ys h (one, first) ended.
      (atom-reference end 63 at t s ys h one first ended, starts-front s ys (atom-opens end 64 at t s one) ∙ first);
}

-- so only one thing is written at a place
pub one-of : {A : Type 0} (read : ℕ → List ℕ → Option (A × List ℕ)) (Is : ℕ → A → List ℕ → List ℕ → Type 0) (Text : ℕ → A → List ℕ → Type 0) (Ends : A → List ℕ → Type 0) → ((end : ℕ) → Exact (read end) (Is end)) → Same Is Text Ends → One Text Ends
one-of read Is Text Ends e same at a b s t ys zs is one ended other closed =
    let end : ℕ = at + length (s ++ ys) in
    let f = same.together end at a s ys refl one ended in
    let g = same.together end at b t zs (ap (λ l. at + length l) is) other closed in
    one_reading (read end) (Is end) (e end) a b (s ++ ys) ys zs f (subst (λ l. Is end b l zs) (sym is) g)
