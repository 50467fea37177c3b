-- Which operators have a known result.
use Rattle.std.proofs.Common.{◌≡◌, ◌∙◌, ℕ, ℤ, zero, suc, pos, negsuc, true, false, List, ◌++◌, Option, Some, None, refl, sym, ap, subst, inl, inr, arith}
use Rattle.std.specs.Prelude.{◌+◌, ◌<◌, ◌^◌, neg_ℤ, unsigned_abs, nat_le, length, is_some, bytes_eq, codes}
use Rattle.std.specs.Fmt.{signed_decimal}
use Rattle.std.proofs.lemmas.Bool.{cases_Bool, lt-leb}
use Rattle.std.proofs.lemmas.List.{length-append}
use Rattle.mlk_numbers.specs.Outcome.{Finds}
use Rattle.mlk_numbers.specs.Folding.{IsWhole, folded}
use Rattle.mlk_text.specs.declared.operator.Op.{Op}
use Rattle.mlk_text.specs.declared.operator.Op.TheVariants.{Concatenate}
use Rattle.mlk_text.specs.declared.operator.UnaryOp.TheVariants.{Plus, Minus, Not}
use Rattle.mlk_numbers.proofs.Folds.{folded-short}
use Rattle.mlk_numbers.specs.Operators.{if_joined, truth_of_text, fold_before, fold_between}
use Rattle.mlk_numbers.proofs.Operators.{folds_are}

-- what is found, or not found
none_found : {A : Type 0} (r : Option A) → ((a : A) → r ≡ Some a → ⊥) → false ≡ is_some r
none_found None h = refl
none_found (Some a) h = absurd (h a refl)

one_found : {A : Type 0} (r : Option A) (a : A) → r ≡ Some a → true ≡ is_some r
one_found r a h = ap is_some (sym h)

same_size : (z : ℤ) → unsigned_abs (neg_ℤ z) ≡ unsigned_abs z
same_size (pos zero) = refl
same_size (pos (suc n)) = refl
same_size (negsuc n) = refl

pub some_plus : (a : List ℕ) (o : Option ℤ) → Finds (λ z. IsWhole z a) o → is_some o ≡ is_some (fold_before Plus a)
some_plus a (Some z) h = one_found (fold_before Plus a) a ((folds_are.before Plus a a).1 (z, h, refl))
some_plus a None h = none_found (fold_before Plus a) (λ t e. let i = (folds_are.before Plus a t).0 e in h i.0 i.1)

pub some_minus : (a : List ℕ) (o : Option ℤ) → Finds (λ z. IsWhole z a) o → is_some o ≡ is_some (fold_before Minus a)
some_minus a (Some z) h =
    let few : unsigned_abs (neg_ℤ z) < 10 ^ 15 = rw (same_size z) h.0 in
    one_found (fold_before Minus a) (signed_decimal (neg_ℤ z))
    ((folds_are.before Minus a (signed_decimal (neg_ℤ z))).1 (z, h, (few, refl)))
some_minus a None h = none_found (fold_before Minus a) (λ t e. let i = (folds_are.before Minus a t).0 e in h i.0 i.1)

pub truth_known : (a : List ℕ)
    → is_some (truth_of_text a) ≡ is_some (fold_before Not a)
unfolding fold_before
truth_known a = elim (cases_Bool (bytes_eq a (codes "0"))) [
  | inl e ↦ rw e refl
  | inr e ↦ elim (cases_Bool (bytes_eq a (codes "1"))) [
    | inl d ↦ rw (e, d) refl
    | inr d ↦ rw (e, d) refl
  ]
]

some_joined : (text : List ℕ) → nat_le (length text) 255 ≡ is_some (if_joined text)
some_joined text = elim (cases_Bool (nat_le (length text) 255)) [
  | inl e ↦ rw e refl
  | inr e ↦ rw e refl
]

joined_known : (a b : List ℕ) → nat_le (length a + length b) 255 ≡ is_some (fold_between Concatenate a b)
unfolding fold_between
joined_known a b = ap (λ n. nat_le n 255) (sym (length-append a b)) ∙ some_joined (a ++ b)

pub joined_so : (a b l m : List ℕ) → l ≡ a → m ≡ b
    → nat_le (length l + length m) 255 ≡ is_some (fold_between Concatenate a b)
joined_so a b l m e f = rw (e, f) (joined_known a b)

pub too_long : (a b l : List ℕ) → l ≡ a → 255 < length l
    → nat_le (length l) 255 ≡ is_some (fold_between Concatenate a b)
too_long a b l same h =
    let k = subst (λ (x : List ℕ). 255 < length x) same h in
    lt-leb (length l) 255 h ∙ sym (lt-leb (length a + length b) 255 (omega (arith, k))) ∙ joined_known a b

pub some_number : (op : Op) (a b : List ℕ) (o : Option ℤ) → (op ≡ Concatenate → ⊥)
    → Finds (λ z. (x y : ℤ) × IsWhole x a × IsWhole y b × (folded op x y ≡ Some z)) o
    → is_some o ≡ is_some (fold_between op a b)
some_number op a b (Some z) other (x, y, f, g, e) =
    one_found (fold_between op a b) (signed_decimal z)
    ((folds_are.between op a b (signed_decimal z)).1 (inr (x, y, z, f, g, e, (folded-short op x y z e, refl))))
some_number op a b None other h = none_found (fold_between op a b) (λ t e. elim ((folds_are.between op a b t).0 e) [
  | inl joined ↦ other joined.0
  | inr r ↦ h r.2 (r.0, r.1, r.3, r.4, r.5)
])
