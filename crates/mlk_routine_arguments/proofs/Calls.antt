-- Calls: what is called, and its actuals.
use Rattle.mlk_text.specs.Places.{column_at}
use Rattle.std.proofs.Common.{◌≡◌, ◌≤◌, ◌+◌, ℕ, suc, List, [], ◌∷◌, ◌++◌, length, drop, Some, None, true, inl, inr, refl, sym, ap, ◌∙◌, arith, subst, add-one}
use Rattle.std.specs.Prelude.{Option}
use Rattle.std.proofs.lemmas.Bool.{cases_Bool}
use Rattle.std.proofs.lemmas.Option.{same_Some}
use Rattle.mlk_text.specs.Lexemes.{is_digit}
use Rattle.mlk_expr.specs.declared.context.Allows.{Allows}
use Rattle.mlk_expr.specs.declared.context.Passing.{Passing}
use Rattle.mlk_syntax.specs.declared.expr.Callee.{Callee}
use Rattle.mlk_syntax.specs.ExprTrees.{ActualTree}
use Rattle.mlk_expr.specs.Grammar.{IsActualList, IsActualListWhere, IsCalleeText}
use Rattle.mlk_expr.specs.Theorem.{Stands, label_ends, callee_ends}
use Rattle.mlk_syntax.specs.Trees.{CallTree, Called}
use Rattle.mlk_routine_arguments.specs.PartsRead.{Found, first_of, byte_at}
use Rattle.mlk_routine_arguments.specs.Ends.{GivenEnds, CalledEnds, CallEnds}
use Rattle.mlk_routine_arguments.specs.CommandGrammar.{IsGiven, IsCall}
use Rattle.mlk_routine_arguments.proofs.Sequences.{Parts}

-- an actual list begins with its parenthesis
pub given_opens : (allows : Allows) (passing : Passing) (at : ℕ) (given : List ActualTree) (s : List ℕ) → IsActualListWhere allows passing at given s → (t : List ℕ) × (s ≡ 40 ∷ t)
unfolding IsActualList
given_opens allows passing at [] s is = (41 ∷ [], is.0)
given_opens allows passing at (a ∷ given) s is = (is.0.0 ++ 41 ∷ [], is.0.1)

pub no_given : (allows : Allows) (passing : Passing) (line : List ℕ) (at : ℕ) → at ≤ length line → (byte_at line at ≡ Some 40 → ⊥) → Found (IsGiven allows passing) GivenEnds line at None at
no_given allows passing line at less missing = (stands, λ c u rest h is e. only c u rest h is e)
  where
    stands : Stands (IsGiven allows passing) GivenEnds line at None at
    stands = record { text = []; within = less; joined = refl; spelled = refl; ended = missing }

    only : (c : Option (List ActualTree)) (u rest : List ℕ) → drop at line ≡ u ++ rest → IsGiven allows passing (suc at) c u → GivenEnds c rest → (c ≡ None) × (rest ≡ drop at line)
    only None u rest h is e = (refl, sym (h ∙ ap (λ z. z ++ rest) is))
    only (Some given) u rest h is e =
        let o = given_opens allows passing (suc at) given u is in
        absurd (missing (ap first_of (h ∙ ap (λ z. z ++ rest) o.1)))

-- what is called ends before a parenthesis
label_opens : (label ys : List ℕ) → label_ends label (40 ∷ ys) ≡ true
label_opens [] ys = refl
label_opens (d ∷ label) ys = elim (cases_Bool (is_digit d)) [
  | inl digit ↦ rw digit refl
  | inr other ↦ rw other refl
]

callee_opens : (label routine : Option (List ℕ)) (ys : List ℕ) → callee_ends label routine (40 ∷ ys) ≡ true
callee_opens None None ys = refl
callee_opens None (Some routine) ys = label_opens routine ys
callee_opens (Some label) None ys = rw (label_opens label ys) refl
callee_opens (Some label) (Some routine) ys = label_opens routine ys

module _ (allows : Allows) (passing : Passing) (line : List ℕ) (at : ℕ) where
  pub call_parts : Parts line at IsCalleeText CalledEnds (λ callee n given r. IsGiven allows passing n given r) (λ callee given rest. GivenEnds given rest) (IsCall allows passing) CallEnds (λ callee given. Called (column_at (at + 1)) callee given)
  call_parts = record {
    into = λ callee given s t one two. (ap column_at (add-one at), (s, t, refl, one, two));
    ends = λ callee given k t rest is before after. closes callee given k t rest is before after;
    apart = λ c u rest h is e. opens c u rest is e;
  }
    where
      closes : (callee : Callee) (given : Option (List ActualTree)) (k : ℕ) (t rest : List ℕ) → IsGiven allows passing k given t → CalledEnds callee (t ++ rest) → GivenEnds given rest → CallEnds (Called (column_at (at + 1)) callee given) rest
      closes callee None k t rest is before after = (subst (λ l. CalledEnds callee (l ++ rest)) is before, after)
      closes callee (Some given) k t rest is before after = tt

      ended : (column : ℕ) (callee : Callee) (given : Option (List ActualTree)) (k : ℕ) (t rest : List ℕ) → IsGiven allows passing k given t → CallEnds (Called column callee given) rest → CalledEnds callee (t ++ rest) × GivenEnds given rest
      ended column callee None k t rest is e = (subst (λ l. CalledEnds callee (l ++ rest)) (sym is) e.0, e.1)
      ended column callee (Some given) k t rest is e =
          let o = given_opens allows passing k given t is in
          let open' : CalledEnds callee (40 ∷ (o.0 ++ rest)) = (callee_opens callee.label callee.routine (o.0 ++ rest), λ bad. let e = same_Some 40 43 bad in omega (arith, e)) in
          (subst (λ l. CalledEnds callee (l ++ rest)) (sym o.1) open', tt)

      opens : (c : CallTree) (u rest : List ℕ) → IsCall allows passing (suc at) c u → CallEnds c rest
          → (callee : Callee) × (given : Option (List ActualTree)) × (s t : List ℕ) × (u ≡ s ++ t) × (c ≡ Called (column_at (at + 1)) callee given) × IsCalleeText (suc at) callee s × IsGiven allows passing (suc at + length s) given t × CalledEnds callee (t ++ rest) × GivenEnds given rest
      opens (Called column callee given) u rest (place, (s, t, is, one, two)) e =
          let f = ended column callee given (suc at + length s) t rest two e in
          (callee, given, s, t, is, ap (λ k. Called k callee given) (place ∙ ap column_at (sym (add-one at))), one, two, f.0, f.1)
