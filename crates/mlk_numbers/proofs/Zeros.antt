-- The zeros before and after digits.
use Rattle.std.proofs.Common.{◌≡◌, ◌≢◌, ◌<◌, ◌≤◌, ◌+◌, ◌-◌, ◌*◌, ◌%◌, ◌^◌, ℕ, zero, suc, ◌++◌, List, [], ◌∷◌, length, take, drop, get_or, replicate, true, refl, sym, ap, ◌∙◌, arith, subst, append_assoc, length-append, length-take-le, one-add, pow-suc, inl, inr}
use Rattle.std.specs.Prelude.{◌==◌, ◌&&◌, if◌then◌else◌}
use Rattle.std.proofs.lemmas.Bool.{cases_Bool, eqb-true, eqb-false, and_right, and_parts, ne_eqb}
use lib.ListN.{length-replicate}
use Rattle.mlk_text.specs.Lexemes.{zeros, to_last, are_digits}
use Rattle.mlk_numbers.specs.Numbers.{number_of_digits, HasSignificant}
use Rattle.mlk_numbers.proofs.Numerals.{digit-bounds, digits-parts}

-- digits are their leading zeros and what is after these
pub zeros-split : (ds : List ℕ) → ds ≡ replicate (zeros ds) 48 ++ drop (zeros ds) ds
zeros-split [] = refl
zeros-split (d ∷ ds) = elim (cases_Bool (d == 48)) [
  | inl e ↦ rw (e, one-add) (rw (eqb-true d 48 e) (ap (λ l. 48 ∷ l) (zeros-split ds)))
  | inr e ↦ rw e refl
]

pub zeros-within : (ds : List ℕ) → zeros ds ≤ length ds
zeros-within [] = omega arith
zeros-within (d ∷ ds) = elim (cases_Bool (d == 48)) [
  | inl e ↦ rw e (let r = zeros-within ds in omega arith)
  | inr e ↦ rw e (omega arith)
]

pub zeros-first : (ds : List ℕ) → get_or (drop (zeros ds) ds) 0 0 ≢ 48
zeros-first [] = λ h. absurd (omega arith)
zeros-first (d ∷ ds) = elim (cases_Bool (d == 48)) [
  | inl e ↦ rw (e, one-add) (zeros-first ds)
  | inr e ↦ rw e (eqb-false d 48 e)
]

pub zeros-after : (n : ℕ) (ds : List ℕ) → zeros (replicate n 48 ++ ds) ≡ n + zeros ds
zeros-after zero ds = omega arith
zeros-after (suc n) ds = rw (zeros-after n ds) (omega arith)

-- two lists together: if the first consists of zeros, and if it does not
pub zeros-all : (xs ys : List ℕ) → zeros xs ≡ length xs → zeros (xs ++ ys) ≡ zeros xs + zeros ys
zeros-all [] ys h = omega arith
zeros-all (d ∷ xs) ys h = elim (cases_Bool (d == 48)) [
  | inl e ↦
      let same : 1 + zeros xs ≡ length (d ∷ xs) = rw e at h in
      let r = zeros-all xs ys (omega (arith, same)) in
      rw e (omega (arith, r))
  | inr e ↦ let none : 0 ≡ length (d ∷ xs) = rw e at h in absurd (omega (arith, none))
]

pub zeros-some : (xs ys : List ℕ) → zeros xs ≢ length xs → zeros (xs ++ ys) ≡ zeros xs
zeros-some [] ys h = absurd (h refl)
zeros-some (d ∷ xs) ys h = elim (cases_Bool (d == 48)) [
  | inl e ↦
      let other : 1 + zeros xs ≢ length (d ∷ xs) = rw e at h in
      let r = zeros-some xs ys (λ same. other (omega (arith, same))) in
      rw e (omega (arith, r))
  | inr e ↦ rw e refl
]

-- digits are the part up to the last that is no zero, and zeros
pub last_within : (ds : List ℕ) → to_last ds ≤ length ds
last_within [] = omega arith
last_within (d ∷ ds) = elim (cases_Bool ((d == 48) && (to_last ds == 0))) [
  | inl e ↦ rw e (omega arith)
  | inr e ↦ rw e (let r = last_within ds in omega arith)
]

pub last-split : (ds : List ℕ) → (n : ℕ) × (ds ≡ take (to_last ds) ds ++ replicate n 48)
last-split [] = (0, refl)
last-split (d ∷ ds) = elim (cases_Bool ((d == 48) && (to_last ds == 0))) [
  | inl e ↦
      let p = and_parts (d == 48) (to_last ds == 0) e in
      let r = last-split ds in
      let none : ds ≡ replicate r.0 48 = r.1 ∙ ap (λ n. take n ds ++ replicate r.0 48) (eqb-true (to_last ds) 0 p.1) in
      (suc r.0, rw e (rw (eqb-true d 48 p.0) (ap (λ l. 48 ∷ l) none)))
  | inr e ↦ let r = last-split ds in (r.0, rw e (ap (λ l. d ∷ l) r.1))
]

pub last-more : (d : ℕ) (ds : List ℕ) → (to_last ds ≡ 0 → ⊥) → to_last (d ∷ ds) ≡ suc (to_last ds)
last-more d ds some = ap (λ b. if b then 0 else suc (to_last ds)) (and_right (d == 48) (to_last ds == 0) (ne_eqb (to_last ds) 0 some))

pub last_append : (xs ys : List ℕ) → to_last (xs ++ ys) ≡ (if to_last ys == 0 then to_last xs else length xs + to_last ys)
last_append [] ys = elim (cases_Bool (to_last ys == 0)) [
  | inl e ↦ rw e (eqb-true (to_last ys) 0 e)
  | inr e ↦ rw e (omega arith)
]
last_append (d ∷ xs) ys = elim (cases_Bool (to_last ys == 0)) [
  | inl e ↦ let r : to_last (xs ++ ys) ≡ to_last xs = last_append xs ys ∙ rw e refl in rw e (rw r refl)
  | inr e ↦
      let r : to_last (xs ++ ys) ≡ length xs + to_last ys = last_append xs ys ∙ rw e refl in
      let some : to_last (xs ++ ys) ≡ 0 → ⊥ = λ h. eqb-false (to_last ys) 0 e (omega arith) in
      rw e (last-more d (xs ++ ys) some ∙ omega arith)
]

pub last-zeros : (n : ℕ) → to_last (replicate n 48) ≡ 0
last-zeros zero = refl
last-zeros (suc n) = rw (last-zeros n) refl

pub last-after : (xs : List ℕ) (n : ℕ) → to_last (xs ++ replicate n 48) ≡ to_last xs
last-after xs n = last_append xs (replicate n 48) ∙ rw (last-zeros n) refl

-- a number that is followed by more digits contributes a multiple of ten
pub tens : (a v k : ℕ) → 0 < k → (a * 10 ^ k + v) % 10 ≡ v % 10
tens a v zero h = absurd (omega arith)
tens a v (suc k) h = rw (pow-suc 10 k) (omega arith)

-- the last digit is no zero
pub last-digit : (ds : List ℕ) → are_digits ds ≡ true → 0 < to_last ds → number_of_digits (take (to_last ds) ds) % 10 ≢ 0
last-digit [] h some = absurd (omega arith)
last-digit (d ∷ ds) h some = elim (cases_Bool (to_last ds == 0)) [
  | inl e ↦
      let none : to_last ds ≡ 0 = eqb-true (to_last ds) 0 e in
      elim (cases_Bool (d == 48)) [
        | inl z ↦ absurd (let bad : 0 < 0 = rw (z, e) at some in omega arith)
        | inr z ↦
            let b = digit-bounds d (digits-parts d ds h).0 in
            let other = eqb-false d 48 z in
            rw (z, none) (λ bad. other (omega arith))
      ]
  | inr e ↦
      let more = last-digit ds (digits-parts d ds h).1 (let no = eqb-false (to_last ds) 0 e in omega arith) in
      let size : length (take (to_last ds) ds) ≡ to_last ds = length-take-le (to_last ds) ds (last_within ds) in
      let same : number_of_digits (take (suc (to_last ds)) (d ∷ ds)) % 10 ≡ number_of_digits (take (to_last ds) ds) % 10 =
      tens (d - 48) (number_of_digits (take (to_last ds) ds)) (length (take (to_last ds) ds)) (let no = eqb-false (to_last ds) 0 e in omega arith) in
      subst (λ n. number_of_digits (take n (d ∷ ds)) % 10 ≢ 0) (sym (last-more d ds (eqb-false (to_last ds) 0 e))) (λ bad. more (sym same ∙ bad))
]

-- At most `most` significant digits, as the code counts them.
pub significant-from : (most : ℕ) (ds : List ℕ) → to_last ds ≤ zeros ds + most → HasSignificant most ds
significant-from most ds h =
    let rest = drop (zeros ds) ds in
    let s = last-split rest in
    let size : length (take (to_last rest) rest) ≡ to_last rest = length-take-le (to_last rest) rest (last_within rest) in
    let leading : List ℕ = replicate (zeros ds) 48 in
    let front : length leading ≡ zeros ds = length-replicate (zeros ds) 48 in
    let whole : to_last ds ≡ to_last (leading ++ rest) = ap to_last (zeros-split ds) in
    let few : to_last rest ≤ most = elim (cases_Bool (to_last rest == 0)) [
      | inl e ↦ let none = eqb-true (to_last rest) 0 e in omega arith
      | inr e ↦ let r : to_last ds ≡ length leading + to_last rest = whole ∙ last_append leading rest ∙ rw e refl in omega arith
    ] in
    (zeros ds, s.0, take (to_last rest) rest, zeros-split ds ∙ ap (λ l. replicate (zeros ds) 48 ++ l) s.1, omega arith)

pub significant-to : (most : ℕ) (ds : List ℕ) → HasSignificant most ds → to_last ds ≤ zeros ds + most
significant-to most ds (a, n, middle, is, few) =
    let front : zeros ds ≡ a + zeros (middle ++ replicate n 48) = ap zeros is ∙ zeros-after a (middle ++ replicate n 48) in
    let back : to_last ds ≡ to_last (replicate a 48 ++ middle) =
    ap to_last (is ∙ sym (append_assoc (replicate a 48) middle (replicate n 48))) ∙ last-after (replicate a 48 ++ middle) n in
    let size : length (replicate a 48 ++ middle) ≡ a + length middle = length-append (replicate a 48) middle ∙ ap (λ k. k + length middle) (length-replicate a 48) in
    let within = last_within (replicate a 48 ++ middle) in
    omega arith
