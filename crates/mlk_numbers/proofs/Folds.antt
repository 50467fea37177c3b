-- Laws on which the exact results of operators depend.
use Rattle.std.proofs.Common.{◌≡◌, ◌<◌, ◌^◌, ℕ, ℤ, pos, negsuc, List, Some, None, Option, sym, ap, ◌∙◌, arith, subst, inl, inr, unsigned_abs, ltb-true, to_z, of_z, to_z-of_z, w64}
use Rattle.std.specs.Prelude.{◌&&◌, option_and_then}
use Rattle.std.proofs.lemmas.Bool.{cases_Bool}
use Rattle.std.proofs.lemmas.Fmt.{signed_decimal_injective}
use lib.Signed.{mag}
use Rattle.mlk_text.specs.declared.operator.Op.{Op}
use Rattle.mlk_text.specs.declared.operator.Op.TheVariants.{Concatenate}
use Rattle.mlk_numbers.specs.Outcome.{Finds}
use Rattle.mlk_numbers.specs.Folding.{is_short, if_short, exact_result, folded, IsWhole}

pub mag-small : (z : ℤ) → unsigned_abs z < 10 ^ 15 → mag z < 2 ^ 63
mag-small (pos n) h = omega arith
mag-small (negsuc n) h = omega arith

-- a text belongs to one whole number
pub one_whole : (x z : ℤ) (text : List ℕ) → IsWhole x text → IsWhole z text → x ≡ z
one_whole x z text f g = signed_decimal_injective x z (mag-small x f.0) (mag-small z g.0) (sym f.1 ∙ g.1)

short-some : (z y : ℤ) → if_short z ≡ Some y → (unsigned_abs y < 10 ^ 15)
short-some z y h = elim (cases_Bool (is_short z)) [
  | inl e ↦ let same : z ≡ y = let s : Some z ≡ Some y = rw e at h in cc in subst (λ w. unsigned_abs w < 10 ^ 15) same (ltb-true (unsigned_abs z) (10 ^ 15) e)
  | inr e ↦ cc (rw e at h)
]

and_then-short : (o : Option ℤ) (z : ℤ) → option_and_then if_short o ≡ Some z → unsigned_abs z < 10 ^ 15
and_then-short None z h = cc h
and_then-short (Some y) z h = short-some y z h

-- a result has at most 15 digits
pub folded-short : (op : Op) (x y z : ℤ) → folded op x y ≡ Some z → unsigned_abs z < 10 ^ 15
folded-short op x y z h = elim (cases_Bool (is_short x && is_short y)) [
  | inl e ↦ and_then-short (exact_result op x y) z (rw e at h)
  | inr e ↦ cc (rw e at h)
]

-- joining is not arithmetic
pub no_number : (x y z : ℤ) → folded Concatenate x y ≡ Some z → ⊥
no_number x y z h = elim (cases_Bool (is_short x && is_short y)) [
  | inl e ↦ cc (rw e at h)
  | inr e ↦ cc (rw e at h)
]

pub folds-found : (op : Op) (x y : ℤ) (a b : List ℕ) (o : Option ℤ) → IsWhole x a → IsWhole y b → o ≡ folded op x y
    → Finds (λ z. (p q : ℤ) × IsWhole p a × IsWhole q b × (folded op p q ≡ Some z)) o
folds-found op x y a b None f g is = λ z (p, q, h, i, e).
    let left = one_whole p x a h f in
    let right = one_whole q y b i g in
    let bad : None ≡ Some z = is ∙ ap (λ k. folded op k y) (sym left) ∙ ap (λ k. folded op p k) (sym right) ∙ e in
    cc bad
folds-found op x y a b (Some z) f g is = (x, y, f, g, sym is)

pub read-back : (x : ℤ) → unsigned_abs x < 10 ^ 15 → to_z w64 (of_z w64 x) ≡ x
read-back x h = to_z-of_z {w = w64} {z = x} (record { sfits = mag-small x h })
