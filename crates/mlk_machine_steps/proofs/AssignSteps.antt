-- The last values, as many as are used, within the range of counts.
use Rattle.std.proofs.Common.{◌≡◌, ◌∙◌, ◌⊎◌, inl, inr, ◌+◌, ◌-◌, ◌≤◌, ℕ, suc, List, [], ◌∷◌, ◌++◌, take, drop, reverse, length, min, sym, ap, arith}
use Rattle.std.specs.Prelude.{◌^◌}
use Rattle.std.proofs.Math.Nat.{min-eq_left, min-eq_right}
use Rattle.std.proofs.lemmas.Bool.{cases_lt}
use Rattle.std.proofs.lemmas.List.{take_all, take_min, drop_min, reverse-append, reverse-reverse, length-reverse}

limited : (n count len : ℕ) → len ≤ 2 ^ 64 - 1 → count ≡ min n (2 ^ 64 - 1)
    → (count ≡ n) ⊎ ((len ≤ count) × (len ≤ n))
limited n count len l e = elim (cases_lt n (2 ^ 64 - 1)) [
  | inl h ↦ inl (e ∙ min-eq_left (omega (arith, h)))
  | inr h ↦
      let m : count ≡ 2 ^ 64 - 1 = e ∙ min-eq_right h in
      inr (omega (arith, l, m), omega (arith, l, h))
]

-- no more than there are
within : (n count most len : ℕ) → len ≤ 2 ^ 64 - 1 → count ≡ min n (2 ^ 64 - 1) → most ≡ len
    → min count most ≡ min n len
within n count most len l e d = elim (limited n count len l e) [
  | inl h ↦ ap (λ k. min k most) h ∙ ap (min n) d
  | inr h ↦ ap (min count) d ∙ min-eq_right h.0 ∙ sym (min-eq_right h.1)
]

pub taken_within : {A : Type 0} (vs : List A) (n count most used : ℕ) → length vs ≤ 2 ^ 64 - 1
    → count ≡ min n (2 ^ 64 - 1) → most ≡ length vs → used ≡ min count most → take used vs ≡ take n vs
taken_within vs n count most used l e d u =
    ap (λ k. take k vs) (u ∙ within n count most (length vs) l e d) ∙ take_min n vs

pub dropped_within : {A : Type 0} (vs : List A) (n count most used : ℕ) → length vs ≤ 2 ^ 64 - 1
    → count ≡ min n (2 ^ 64 - 1) → most ≡ length vs → used ≡ min count most → drop used vs ≡ drop n vs
dropped_within vs n count most used l e d u =
    ap (λ k. drop k vs) (u ∙ within n count most (length vs) l e d) ∙ drop_min n vs

-- one more than a count that saturates at the greatest number
pub one_more : (n count more : ℕ) → count ≡ min n (2 ^ 64 - 1) → more ≡ min (count + 1) (2 ^ 64 - 1)
    → more ≡ min (n + 1) (2 ^ 64 - 1)
one_more n count more e d = elim (cases_lt n (2 ^ 64 - 1)) [
  | inl h ↦
      let m : count ≡ n = e ∙ min-eq_left (omega (arith, h)) in
      d ∙ ap (λ k. min (k + 1) (2 ^ 64 - 1)) m
  | inr h ↦
      let m : count ≡ 2 ^ 64 - 1 = e ∙ min-eq_right h in
      let u : min (count + 1) (2 ^ 64 - 1) ≡ 2 ^ 64 - 1 = min-eq_right (omega (arith, m)) in
      let w : min (n + 1) (2 ^ 64 - 1) ≡ 2 ^ 64 - 1 = min-eq_right (omega (arith, h)) in
      d ∙ u ∙ sym w
]

tail_is : (x y : List ℕ) (xs ys : List (List ℕ)) → x ∷ xs ≡ y ∷ ys → xs ≡ ys
tail_is x y xs ys e = cc

-- those before the last one
pub all_but_last : (vs all needs : List (List ℕ)) (n : ℕ) (v : List ℕ) → all ≡ reverse (take (n + 1) vs)
    → all ≡ needs ++ v ∷ [] → needs ≡ reverse (take n (drop 1 vs))
all_but_last vs all needs n v e h =
    let turned : take (n + 1) vs ≡ v ∷ reverse needs =
    sym (reverse-reverse (take (n + 1) vs)) ∙ ap reverse (sym e ∙ h) ∙ reverse-append needs (v ∷ []) in
    by_values vs turned
  where
    by_values : (ws : List (List ℕ)) → take (n + 1) ws ≡ v ∷ reverse needs → needs ≡ reverse (take n (drop 1 ws))
    by_values [] t =
        let z : [] ≡ v ∷ reverse needs = sym (take_all (n + 1) [] (omega arith)) ∙ t in
        absurd (omega (arith, ap length z))
    by_values (w ∷ ws) t =
        let k : n + 1 ≡ suc n = omega arith in
        let u : w ∷ take n ws ≡ v ∷ reverse needs = ap (λ m. take m (w ∷ ws)) (sym k) ∙ t in
        sym (reverse-reverse needs) ∙ ap reverse (sym (tail_is w v (take n ws) (reverse needs) u))

pub none_before : (vs all : List (List ℕ)) (n : ℕ) → all ≡ reverse (take (n + 1) vs) → length all ≡ 0
    → all ≡ reverse (take n (drop 1 vs))
none_before [] all n e h = e ∙ ap reverse (take_all (n + 1) [] (omega arith) ∙ sym (take_all n [] (omega arith)))
none_before (v ∷ vs) all n e h =
    let k : n + 1 ≡ suc n = omega arith in
    let m : all ≡ reverse (v ∷ take n vs) = e ∙ ap (λ i. reverse (take i (v ∷ vs))) k in
    absurd (omega (arith, h, ap length m, length-reverse (v ∷ take n vs)))

pub one_plus : (n : ℕ) → suc n ≡ n + 1
one_plus n = omega arith
