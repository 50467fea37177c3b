-- Formats, and the arguments of WRITE.
use Rattle.std.proofs.Common.{◌≡◌, ◌<◌, ◌+◌, ℕ, suc, List, [], ◌∷◌, ◌++◌, length, drop, Some, None, true, false, inl, inr, refl, sym, ap, ◌∙◌, arith, subst, append-nil}
use Rattle.std.specs.Prelude.{Option, ◌⊎◌, ◌==◌, ◌||◌, Bool, Result}
use Rattle.std.specs.List.{list_all}
use Rattle.std.proofs.lemmas.Bool.{or_cases, and_parts, eqb-true}
use Rattle.std.proofs.lemmas.Option.{same_Some}
use Rattle.mlk_text.specs.declared.failure.Failure.{Failure}
use Rattle.mlk_text.specs.declared.fault.Fault.{Fault}
use Rattle.mlk_expr.specs.declared.context.Allows.{Allows}
use Rattle.mlk_expr.specs.declared.context.Allows.TheVariants.{Everything}
use Rattle.mlk_syntax.specs.ExprTrees.{Tree}
use Rattle.mlk_expr.specs.Grammar.{IsExpr, IsExprWhere}
use Rattle.mlk_expr.specs.Theorem.{ExprEnds}
use Rattle.mlk_expr.proofs.JoinedParts.{opens}
use Rattle.mlk_expr.proofs.JoinedOperands.{nested-opens}
use Rattle.mlk_syntax.specs.Trees.{WriteTree, WriteValue, WriteCharacter, WriteFormat}
use Rattle.mlk_routine_arguments.specs.PartsRead.{ReadsPart, first_of, byte_at}
use Rattle.mlk_routine_arguments.specs.Ends.{IsRun, RunEnds, AfterEnds, starts, starts_format, FormatEnds, WriteEnds}
use Rattle.mlk_routine_arguments.specs.CommandGrammar.{Both, IsValue, IsAfter, is_mark, IsFormat, IsWrite}
use Rattle.mlk_routine_arguments.proofs.Sequences.{Parts, Turned, narrow_told}
use Rattle.mlk_routine_arguments.proofs.Bytes.{AfterByte, byte_there}

-- marks and a column, each of which may be missing
abbrev pub IsMarked : ℕ → Option Tree → List ℕ → Type 0
IsMarked at tab s = Both (λ n r. IsRun is_mark n tt r) (λ n r. IsAfter 63 Everything n tab r) at s

no_start : (rest : List ℕ) → starts is_mark rest ≡ false → (first_of rest ≡ Some 63 → ⊥) → starts_format rest ≡ false
no_start [] marks column = refl
no_start (b ∷ rest) marks column = rw marks (go (b == 63) refl)
  where
    go : (t : Bool) → (b == 63) ≡ t → t ≡ false
    go true e = absurd (column (ap Some (eqb-true b 63 e)))
    go false e = refl

no_marks : (rest : List ℕ) → starts_format rest ≡ false → starts is_mark rest ≡ false
no_marks [] h = refl
no_marks (b ∷ rest) h = go (is_mark b) h
  where
    go : (t : Bool) → (t || (b == 63)) ≡ false → t ≡ false
    go true e = cc e
    go false e = refl

no_column : (rest : List ℕ) → starts_format rest ≡ false → first_of rest ≡ Some 63 → ⊥
no_column [] h here = cc here
no_column (b ∷ rest) h here = cc (subst (λ c. starts_format (c ∷ rest) ≡ false) (same_Some b 63 here) h)

pub marked_parts : (line : List ℕ) (at : ℕ) → Parts line at (IsRun is_mark) (RunEnds is_mark) (λ u. IsAfter 63 Everything) (λ u. AfterEnds 63) IsMarked FormatEnds (λ u tab. tab)
marked_parts line at = record {
  into = λ u tab s t one two. (s, t, refl, one, two);
  ends = λ u tab k t rest is before after. closes k tab t rest is before after;
  apart = λ c u rest h (s, t, is, one, two) e. (tt, c, s, t, is, refl, one, two, opens' (suc at + length s) c t rest two e, after' c rest e);
}
  where
    closes : (k : ℕ) (tab : Option Tree) (t rest : List ℕ) → IsAfter 63 Everything k tab t → starts is_mark (t ++ rest) ≡ false → AfterEnds 63 tab rest → FormatEnds tab rest
    closes k None t rest is before after = no_start rest (subst (λ l. starts is_mark (l ++ rest) ≡ false) is before) after
    closes k (Some x) t rest is before after = after

    opens' : (k : ℕ) (tab : Option Tree) (t rest : List ℕ) → IsAfter 63 Everything k tab t → FormatEnds tab rest → starts is_mark (t ++ rest) ≡ false
    opens' k None t rest is e = subst (λ l. starts is_mark (l ++ rest) ≡ false) (sym is) (no_marks rest e)
    opens' k (Some x) t rest is e = ap (λ l. starts is_mark (l ++ rest)) is.1

    after' : (tab : Option Tree) (rest : List ℕ) → FormatEnds tab rest → AfterEnds 63 tab rest
    after' None rest e = no_column rest e
    after' (Some x) rest e = e

-- a format begins with a mark or with `?`
mark_starts : (b : ℕ) (l : List ℕ) → is_mark b ≡ true → starts_format (b ∷ l) ≡ true
mark_starts b l h = rw h refl

pub format_starts : (k : ℕ) (tab : Option Tree) (s rest : List ℕ) → IsFormat k tab s → starts_format (s ++ rest) ≡ true
format_starts k None [] rest is = let bad : ⊥ = omega (arith, is.1) in absurd bad
format_starts k None (b ∷ s) rest is = mark_starts b (s ++ rest) (and_parts (is_mark b) (list_all is_mark s) is.0).0
format_starts k (Some t) s rest ([], back, is, all, two) = ap (λ l. starts_format (l ++ rest)) (is ∙ two.1)
format_starts k (Some t) s rest (b ∷ front, back, is, all, two) = ap (λ l. starts_format (l ++ rest)) is ∙ mark_starts b ((front ++ back) ++ rest) (and_parts (is_mark b) (list_all is_mark front) all).0

module _ (line : List ℕ) (at : ℕ) (begins : starts_format (drop at line) ≡ true) where
  wide : (tab : Option Tree) (s : List ℕ) → IsFormat (suc at) tab s → IsMarked (suc at) tab s
  wide None s is = (s, [], sym (append-nil s), is.0, refl)
  wide (Some t) s is = is

  narrow : (tab : Option Tree) (s rest : List ℕ) → drop at line ≡ s ++ rest → IsMarked (suc at) tab s → FormatEnds tab rest → IsFormat (suc at) tab s
  narrow None s rest h (front, back, is, all, none) e =
      let same : s ≡ front = is ∙ ap (λ l. front ++ l) none ∙ append-nil front in
      (subst (λ l. list_all is_mark l ≡ true) (sym same) all, some s h)
    where
      some : (s : List ℕ) → drop at line ≡ s ++ rest → 0 < length s
      some [] h = cc (sym begins ∙ ap starts_format h ∙ e)
      some (b ∷ s) h = omega arith
  narrow (Some t) s rest h is e = is

  pub format_told : {X : Type 0} (r : Result (X × ℕ) (Failure Fault)) (view : X → Option Tree) → ReadsPart view IsMarked FormatEnds line at r → ReadsPart view IsFormat FormatEnds line at r
  format_told r view h = narrow_told IsMarked IsFormat FormatEnds line at wide narrow r view h

-- what an expression does not begin with
pub expr_opens : (allows : Allows) (at : ℕ) (t : Tree) (s : List ℕ) → IsExprWhere allows at t s → opens s ≡ true
unfolding IsExpr
expr_opens allows at t s is = nested-opens 0 64 at t s is.0

pub opens_lacking : (b : ℕ) → ((s : List ℕ) → opens (b ∷ s) ≡ false) → (s rest : List ℕ) → opens s ≡ true → first_of (s ++ rest) ≡ Some b → ⊥
opens_lacking b shut [] rest o h = cc o
opens_lacking b shut (c ∷ s) rest o h = cc (sym (shut s), subst (λ d. opens (d ∷ s) ≡ true) (same_Some c b h) o)

pub starts_with : (l : List ℕ) → starts_format l ≡ true → (first_of l ≡ Some 33) ⊎ (first_of l ≡ Some 35) ⊎ (first_of l ≡ Some 63)
starts_with [] h = cc h
starts_with (b ∷ l) h = elim (or_cases (is_mark b) (b == 63) h) [
  | inl mark ↦ elim (or_cases (b == 33) (b == 35) mark) [
    | inl e ↦ inl (ap Some (eqb-true b 33 e))
    | inr e ↦ inr (inl (ap Some (eqb-true b 35 e)))
  ]
  | inr e ↦ inr (inr (ap Some (eqb-true b 63 e)))
]

opens_no_format : (s rest : List ℕ) → opens s ≡ true → starts_format (s ++ rest) ≡ true → ⊥
opens_no_format s rest o h = elim (starts_with (s ++ rest) h) [
  | inl e ↦ opens_lacking 33 (λ s. refl) s rest o e
  | inr (inl e) ↦ opens_lacking 35 (λ s. refl) s rest o e
  | inr (inr e) ↦ opens_lacking 63 (λ s. refl) s rest o e
]

-- the byte at a place begins no format
pub other_start : (line : List ℕ) (at b : ℕ) → ((l : List ℕ) → starts_format (b ∷ l) ≡ false) → byte_at line at ≡ Some b → starts_format (drop at line) ≡ true → ⊥
other_start line at b other here h = cc (sym h ∙ ap starts_format (byte_there line at b here) ∙ other (drop (suc at) line))

module _ (line : List ℕ) (at : ℕ) where
  pub write_format : starts_format (drop at line) ≡ true → Turned line at IsFormat FormatEnds IsWrite WriteEnds WriteFormat
  write_format begins = record {
    into = λ tab s is. is;
    ends = λ tab rest e. e;
    apart = λ c u rest h is e. go c u rest h is e;
  }
    where
      go : (c : WriteTree) (u rest : List ℕ) → drop at line ≡ u ++ rest → IsWrite (suc at) c u → WriteEnds c rest → (tab : Option Tree) × (c ≡ WriteFormat tab) × IsFormat (suc at) tab u × FormatEnds tab rest
      go (WriteValue t) u rest h is e = absurd (opens_no_format u rest (expr_opens Everything (suc at) t u is) (sym (ap starts_format h) ∙ begins))
      go (WriteCharacter t) u rest h is e = cc (sym begins ∙ ap starts_format (h ∙ ap (λ l. l ++ rest) is.1))
      go (WriteFormat tab) u rest h is e = (tab, refl, is, e)

  pub write_character : byte_at line at ≡ Some 42 → Turned line at (AfterByte 42 IsValue) ExprEnds IsWrite WriteEnds WriteCharacter
  write_character here = record {
    into = λ t s is. is;
    ends = λ t rest e. e;
    apart = λ c u rest h is e. go c u rest h is e;
  }
    where
      go : (c : WriteTree) (u rest : List ℕ) → drop at line ≡ u ++ rest → IsWrite (suc at) c u → WriteEnds c rest → (t : Tree) × (c ≡ WriteCharacter t) × AfterByte 42 IsValue (suc at) t u × ExprEnds t rest
      go (WriteValue t) u rest h is e = absurd (opens_lacking 42 (λ s. refl) u rest (expr_opens Everything (suc at) t u is) (sym (ap first_of h) ∙ here))
      go (WriteCharacter t) u rest h is e = (t, refl, is, e)
      go (WriteFormat tab) u rest h is e = absurd (other_start line at 42 (λ l. refl) here (ap starts_format h ∙ format_starts (suc at) tab u rest is))

  pub write_value : starts_format (drop at line) ≡ false → (byte_at line at ≡ Some 42 → ⊥) → Turned line at IsValue ExprEnds IsWrite WriteEnds WriteValue
  write_value begins missing = record {
    into = λ t s is. is;
    ends = λ t rest e. e;
    apart = λ c u rest h is e. go c u rest h is e;
  }
    where
      go : (c : WriteTree) (u rest : List ℕ) → drop at line ≡ u ++ rest → IsWrite (suc at) c u → WriteEnds c rest → (t : Tree) × (c ≡ WriteValue t) × IsValue (suc at) t u × ExprEnds t rest
      go (WriteValue t) u rest h is e = (t, refl, is, e)
      go (WriteCharacter t) u rest h is e = absurd (missing (ap first_of (h ∙ ap (λ l. l ++ rest) is.1)))
      go (WriteFormat tab) u rest h is e = cc (sym begins ∙ ap starts_format h ∙ format_starts (suc at) tab u rest is)
