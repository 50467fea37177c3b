-- The index of the first byte that ends a line is the number of bytes before it.
use Rattle.std.proofs.Common.{◌≡◌, ◌<◌, ℕ, zero, suc, List, [], ◌∷◌, length, Some, None, Bool, true, false, inl, inr, refl, ap, ◌∙◌, arith}
use Rattle.std.specs.Prelude.{◌⊎◌, ◌==◌, not, slice_index}
use Rattle.std.proofs.lemmas.Bool.{cases_Bool}
use Rattle.std.specs.List.{prefix_len}
use Rattle.memchr.specs.Find.{IsFirstByte}
use Rattle.bstr.specs.Bytes.{is_in}
use Rattle.mlk_routine.specs.RoutineGrammar.{is_line_byte}

module _ (ends goes : ℕ → Bool) (other : (b : ℕ) → goes b ≡ not (ends b)) where
  stops : (b : ℕ) → ends b ≡ true → goes b ≡ false
  stops b e = other b ∙ ap not e

  passes : (b : ℕ) → (ends b ≡ true → ⊥) → goes b ≡ true
  passes b never = go (cases_Bool (ends b))
    where
      go : (ends b ≡ true) ⊎ (ends b ≡ false) → goes b ≡ true
      go (inl e) = absurd (never e)
      go (inr e) = other b ∙ ap not e

  found : (s : List ℕ) (i : ℕ) → i < length s → ((k : ℕ) → k < i → ends (slice_index s k) ≡ true → ⊥) → ends (slice_index s i) ≡ true → prefix_len goes s ≡ i
  found [] i less before here = absurd (omega (arith, less))
  found (b ∷ s) zero less before here = let e = stops b here in rw e refl
  found (b ∷ s) (suc i) less before here =
      let e = passes b (before 0 (omega arith)) in
      let ih = found s i (omega (arith, less)) (λ k h. before (suc k) (omega (arith, h))) here in
      rw e (omega (arith, ih))

  none : (s : List ℕ) → ((k : ℕ) → k < length s → ends (slice_index s k) ≡ true → ⊥) → prefix_len goes s ≡ length s
  none [] never = refl
  none (b ∷ s) never =
      let e = passes b (never 0 (omega arith)) in
      let ih = none s (λ k h. never (suc k) (omega (arith, h))) in
      rw e (omega (arith, ih))

  pub first_found : (s : List ℕ) (i : ℕ) → IsFirstByte ends s (Some i) → prefix_len goes s ≡ i
  first_found s i is = found s i is.0.high (λ k h. is.0.before k (omega arith) h) is.1

  pub first_none : (s : List ℕ) → IsFirstByte ends s None → prefix_len goes s ≡ length s
  first_none s is = none s (λ k h. is k (omega arith) h)

abbrev pub ends_line : ℕ → Bool
ends_line = is_in (10 ∷ 13 ∷ [])

pub goes_on : (b : ℕ) → is_line_byte b ≡ not (ends_line b)
unfolding is_in
goes_on b = go (cases_Bool (b == 13))
  where
    go : ((b == 13) ≡ true) ⊎ ((b == 13) ≡ false) → is_line_byte b ≡ not (ends_line b)
    go (inl e) = rw e refl
    go (inr e) = rw e refl
