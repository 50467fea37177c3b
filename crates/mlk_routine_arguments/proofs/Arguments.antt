-- The arguments of DO and JOB.
use Rattle.std.proofs.Common.{◌≡◌, ◌+◌, ℕ, suc, List, [], ◌∷◌, ◌++◌, length, drop, Some, None, true, false, inl, inr, refl, sym, ap, ◌∙◌, arith, subst, append_assoc, append-nil}
use Rattle.std.specs.Prelude.{Option, option_map, is_some}
use Rattle.std.proofs.lemmas.Bool.{cases_Bool}
use Rattle.std.proofs.lemmas.Option.{same_Some}
use Rattle.mlk_text.specs.declared.failure.Failure.{Failure}
use Rattle.mlk_text.specs.declared.failure.Failure.TheVariants.{OutOfMemory, Refused}
use Rattle.mlk_text.specs.declared.fault.Fault.{Fault}
use Rattle.mlk_text.specs.Lexemes.{is_digit}
use Rattle.mlk_expr.specs.declared.context.Allows.TheVariants.{Everything, NoTouches}
use Rattle.mlk_expr.specs.declared.context.Passing.TheVariants.{ByReference}
use Rattle.mlk_syntax.specs.declared.expr.Callee.{Callee}
use Rattle.mlk_syntax.specs.ExprTrees.{Tree, Free, ActualTree}
use Rattle.mlk_expr.specs.Grammar.{Spelled, IsExprWhere}
use Rattle.mlk_expr.specs.Theorem.{Stands, ExprEnds, label_ends, callee_ends}
use Rattle.mlk_expr.proofs.Contexts.{given-anywhere}
use Rattle.mlk_syntax.specs.Trees.{CallTree, Called, DoTree, DoCall}
use Rattle.mlk_routine_arguments.specs.PartsRead.{Found, Nowhere, Denied, first_of, byte_at}
use Rattle.mlk_routine_arguments.specs.Ends.{Lacks, CallEnds, DoEnds}
use Rattle.mlk_routine_arguments.specs.CommandGrammar.{IsCall, IsDo, before_condition}
use Rattle.mlk_routine_arguments.proofs.Sequences.{Parts}
use Rattle.mlk_routine_arguments.proofs.Bytes.{AfterByte}

-- a thing that this byte may not follow
module _ {A : Type 0} (Is : Spelled A) (Ends : A → List ℕ → Type 0) (line : List ℕ) (at b : ℕ) (a : A) (n : ℕ) (f : Found Is Ends line at a n) where
  pub lacking_found : (byte_at line n ≡ Some b → ⊥) → Found Is (λ a rest. Ends a rest × Lacks b rest) line at a n
  lacking_found missing =
      let stands : Stands Is (λ a rest. Ends a rest × Lacks b rest) line at a n = record { text = f.0.text; within = f.0.within; joined = f.0.joined; spelled = f.0.spelled; ended = (f.0.ended, missing) } in
      (stands, λ c u rest h is e. f.1 c u rest h is e.0)

  pub lacking_nowhere : byte_at line n ≡ Some b → Nowhere Is (λ a rest. Ends a rest × Lacks b rest) line at
  lacking_nowhere here c u rest h is e = e.1 (ap first_of (f.1 c u rest h is e.0).1 ∙ here)

-- a part that is written where less is allowed is written where everything is
pub call_anywhere : (at : ℕ) (c : CallTree) (s : List ℕ) (condition : Option Tree) → IsCall (before_condition condition) ByReference at c s → IsCall Everything ByReference at c s
call_anywhere at (Called column callee None) s condition (place, (front, back, is, one, two)) = (place, (front, back, is, one, two))
call_anywhere at (Called column callee (Some given)) s None is = is
call_anywhere at (Called column callee (Some given)) s (Some t) (place, (front, back, is, one, two)) = (place, (front, back, is, one, (two.0, given-anywhere given two.1)))

pub none_mapped : {A B : Type 0} (f : A → B) (o : Option A) → is_some o ≡ false → option_map f o ≡ None
none_mapped f None h = refl
none_mapped f (Some a) h = cc h

-- a call without actuals is written anywhere
pub bare_call : (line : List ℕ) (at : ℕ) (column : ℕ) (callee : Callee) (given : Option (List ActualTree)) (n : ℕ) → given ≡ None → Found (IsCall Everything ByReference) CallEnds line at (Called column callee given) n
    → Found (IsCall NoTouches ByReference) CallEnds line at (Called column callee given) n
bare_call line at column callee given n none f = go given none f
  where
    go : (given : Option (List ActualTree)) → given ≡ None → Found (IsCall Everything ByReference) CallEnds line at (Called column callee given) n → Found (IsCall NoTouches ByReference) CallEnds line at (Called column callee given) n
    go None none (one, only) =
        let stands : Stands (IsCall NoTouches ByReference) CallEnds line at (Called column callee None) n = record { text = one.text; within = one.within; joined = one.joined; spelled = one.spelled; ended = one.ended } in
        (stands, λ c u rest h is e. only c u rest h (call_anywhere (suc at) c u (Some Free) is) e)
    go (Some actuals) none f = cc none

-- a colon may follow a call
label_colon : (label ys : List ℕ) → label_ends label (58 ∷ ys) ≡ true
label_colon [] ys = refl
label_colon (d ∷ label) ys = elim (cases_Bool (is_digit d)) [
  | inl digit ↦ rw digit refl
  | inr other ↦ rw other refl
]

callee_colon : (label routine : Option (List ℕ)) (ys : List ℕ) → callee_ends label routine (58 ∷ ys) ≡ true
callee_colon None None ys = refl
callee_colon None (Some routine) ys = label_colon routine ys
callee_colon (Some label) None ys = rw (label_colon label ys) refl
callee_colon (Some label) (Some routine) ys = label_colon routine ys

pub call_colon : (c : CallTree) (ys : List ℕ) → CallEnds c (58 ∷ ys)
call_colon (Called column callee None) ys = ((callee_colon callee.label callee.routine ys, λ bad. let e = same_Some 58 43 bad in omega (arith, e)), λ bad. let e = same_Some 58 40 bad in omega (arith, e))
call_colon (Called column callee (Some given)) ys = tt

-- what follows the call of a DO argument
do_call : (at : ℕ) (call : CallTree) (condition : Option Tree) (u rest : List ℕ) → IsDo at (DoCall call condition) u → DoEnds (DoCall call condition) rest
    → (s t : List ℕ) × (u ≡ s ++ t) × IsCall Everything ByReference at call s × CallEnds call (t ++ rest)
do_call at call None u rest (s, t, is, one, two) e = (s, t, is, call_anywhere at call s None one, subst (λ l. CallEnds call (l ++ rest)) (sym two) e.0)
do_call at call (Some x) u rest (s, t, is, one, two) e = (s, t, is, call_anywhere at call s (Some x) one, subst (λ l. CallEnds call (l ++ rest)) (sym two.1) (call_colon call (two.0 ++ rest)))

module _ (line : List ℕ) (at : ℕ) where
  pub no_call : (e : Failure Fault) → Denied (IsCall Everything ByReference) CallEnds line at e → Denied IsDo DoEnds line at e
  no_call OutOfMemory h = tt
  no_call (Refused fault) h = (λ c u rest is one e. go c u rest is one e, h.1)
    where
      go : (c : DoTree) (u rest : List ℕ) → drop at line ≡ u ++ rest → IsDo (suc at) c u → DoEnds c rest → ⊥
      go (DoCall call condition) u rest is one e =
          let f = do_call (suc at) call condition u rest one e in
          h.0 call (f.0) (f.1 ++ rest) (is ∙ ap (λ l. l ++ rest) (f.2) ∙ append_assoc (f.0) (f.1) rest) (f.3) (f.4)

  module _ (call : CallTree) (m : ℕ) (found : Found (IsCall Everything ByReference) CallEnds line at call m) where
    pub do_found : (byte_at line m ≡ Some 58 → ⊥) → Found IsDo DoEnds line at (DoCall call None) m
    do_found missing = (stands, λ c u rest h is e. only c u rest h is e)
      where
        stands : Stands IsDo DoEnds line at (DoCall call None) m
        stands = record { text = found.0.text; within = found.0.within; joined = found.0.joined; spelled = (found.0.text, [], sym (append-nil found.0.text), found.0.spelled, refl); ended = (found.0.ended, missing) }

        only : (c : DoTree) (u rest : List ℕ) → drop at line ≡ u ++ rest → IsDo (suc at) c u → DoEnds c rest → (c ≡ DoCall call None) × (rest ≡ drop m line)
        only (DoCall other None) u rest h (s, t, is, one, two) e =
            let f = found.1 other s rest (h ∙ ap (λ l. l ++ rest) (is ∙ ap (λ l. s ++ l) two ∙ append-nil s)) one e.0 in
            (ap (λ x. DoCall x None) f.0, f.1)
        only (DoCall other (Some x)) u rest h (s, t, is, one, two) e =
            let ends = subst (λ l. CallEnds other (l ++ rest)) (sym two.1) (call_colon other (two.0 ++ rest)) in
            let f = found.1 other s (t ++ rest) (h ∙ ap (λ l. l ++ rest) is ∙ append_assoc s t rest) (call_anywhere (suc at) other s (Some x) one) ends in
            absurd (missing (sym (ap first_of f.1) ∙ ap (λ l. first_of (l ++ rest)) two.1))

    pub do_parts : byte_at line m ≡ Some 58 → Parts line at (IsCall NoTouches ByReference) CallEnds (λ c. AfterByte 58 (IsExprWhere Everything)) (λ c. ExprEnds) IsDo DoEnds (λ c t. DoCall c (Some t))
    do_parts here = record {
      into = λ c x s t one two. (s, t, refl, one, two);
      ends = λ c x k t rest is before after. after;
      apart = λ c u rest h is e. go c u rest h is e;
    }
      where
        go : (c : DoTree) (u rest : List ℕ) → drop at line ≡ u ++ rest → IsDo (suc at) c u → DoEnds c rest
            → (a : CallTree) × (x : Tree) × (s t : List ℕ) × (u ≡ s ++ t) × (c ≡ DoCall a (Some x)) × IsCall NoTouches ByReference (suc at) a s × AfterByte 58 (IsExprWhere Everything) (suc at + length s) x t × CallEnds a (t ++ rest) × ExprEnds x rest
        go (DoCall other None) u rest h (s, t, is, one, two) e =
            let f = found.1 other s rest (h ∙ ap (λ l. l ++ rest) (is ∙ ap (λ l. s ++ l) two ∙ append-nil s)) one e.0 in
            absurd (e.1 (ap first_of f.1 ∙ here))
        go (DoCall other (Some x)) u rest h (s, t, is, one, two) e =
            (other, x, s, t, is, refl, one, two, subst (λ l. CallEnds other (l ++ rest)) (sym two.1) (call_colon other (two.0 ++ rest)), e)

    -- the call that is read again ends at the same place
    pub colon_again : (x : Tree) → byte_at line m ≡ Some 58 → (again : CallTree) (n : ℕ) → Found (IsCall NoTouches ByReference) CallEnds line at again n → byte_at line n ≡ Some 58
    colon_again x here again n f =
        let same = found.1 again f.0.text (drop n line) f.0.joined (call_anywhere (suc at) again f.0.text (Some x) f.0.spelled) f.0.ended in
        ap first_of same.1 ∙ here
