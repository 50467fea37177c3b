-- Numbers and their decimal digits.
use Rattle.std.proofs.Common.{one-add, ◌≡◌, ◌<◌, ◌≤◌, ◌+◌, ◌-◌, ◌*◌, ◌/◌, ◌%◌, ◌^◌, ℕ, suc, ◌++◌, List, ◌∷◌, length, map, take, drop, get_or, Some, None, true, false, refl, sym, ap, ◌∙◌, arith, subst, inl, inr, append_assoc, take-append-drop, append-nil, []}
use Rattle.std.specs.Prelude.{Option, ◌==◌, nat_le, if◌then◌else◌}
use Rattle.std.specs.Fmt.{decimal, digits as digits'}
use Rattle.std.specs.Int.Digits.{digits_of, number_from_digits_after, number_from_digits, AllBelowBase}
use Rattle.std.proofs.lemmas.Fmt.{decimal-digits_of, decimal_digit, decimal_step}
use Rattle.std.proofs.lemmas.Int.Digits.{digits_of_step, number_after_ge, number_digits_of, all_below_base_digits_of, first_digits_of}
use Rattle.std.proofs.Math.Seq.{drop-append_seam, take-append_seam}
use Rattle.std.proofs.lemmas.List.{map-append}
use Rattle.std.proofs.lemmas.Bool.{cases_Bool, eqb-true, leb-true, le-leb}
use Rattle.std.proofs.lemmas.Bool.Decides.{nat_tests}
use Rattle.std.proofs.lemmas.Option.{same_Some}
use Rattle.mlk_text.specs.Reading.{◌>>=◌}
use Rattle.mlk_text.specs.Lexemes.{is_digit, digits, digits_at, byte_at}
use Rattle.mlk_text.proofs.Readers.{then_some, pair_parts}
use Rattle.mlk_cert_lexemes.specs.Lists.{Each}
use Rattle.mlk_cert_lexemes.specs.Reading.{value_after, leads_zero, number_by, number_at, positive}
use Rattle.mlk_cert_lexemes.proofs.Formats.{Format}

-- a number's digits, by its digits to the base ten
abbrev shown_number : ℕ → List ℕ
shown_number n = if n == 0 then 48 ∷ [] else map (λ d. d + 48) (digits_of 10 n)

abbrev pub IsDigit : ℕ → Type 0
IsDigit b = is_digit b ≡ true

digit-range : (b : ℕ) → is_digit b ≡ true → (48 ≤ b) × (b ≤ 57)
digit-range b h = (digit-low b h, digit-high b h)
  where
    digit-low : (b : ℕ) → is_digit b ≡ true → 48 ≤ b
    digit-low b h = grind (arith, nat_tests)

    digit-high : (b : ℕ) → is_digit b ≡ true → b ≤ 57
    digit-high b h = grind (arith, nat_tests)

digits-are : (xs : List ℕ) → Each IsDigit (take (digits xs) xs)
digits-are [] = tt
digits-are (b ∷ xs) = elim (cases_Bool (is_digit b)) [
  | inl e ↦ let P : ℕ → Type 0 = λ n. Each IsDigit (take n (b ∷ xs)) in
      let s : suc (digits xs) ≡ digits (b ∷ xs) = rw (e, one-add) refl in
      subst P s (e, digits-are xs)
  | inr e ↦ let P : ℕ → Type 0 = λ n. Each IsDigit (take n (b ∷ xs)) in
      let s : 0 ≡ digits (b ∷ xs) = rw e refl in
      subst P s tt
]

pub digits-is : (ds xs ys : List ℕ) → digits_at xs ≡ Some (ds, ys) → (xs ≡ ds ++ ys) × Each IsDigit ds × (0 < length ds)
unfolding digits_at
digits-is ds xs ys h = elim (cases_Bool (digits xs == 0)) [
  | inl e ↦ cc (rw e at h)
  | inr e ↦
      let p = pair_parts (take (digits xs) xs) ds (drop (digits xs) xs) ys (rw e at h) in
      let P : List ℕ → Type 0 = λ l. (xs ≡ l ++ ys) × Each IsDigit l × (0 < length l) in
      subst P p.0 (sym (ap (λ l. take (digits xs) xs ++ l) (sym p.1) ∙ take-append-drop (digits xs) xs), digits-are xs, some-digit xs e)
]
  where
    some-digit : (xs : List ℕ) → (digits xs == 0) ≡ false → 0 < length (take (digits xs) xs)
    some-digit [] e = cc e
    some-digit (b ∷ xs) e = elim (cases_Bool (is_digit b)) [
      | inl q ↦ let s : suc (digits xs) ≡ digits (b ∷ xs) = rw (q, one-add) refl in subst (λ n. 0 < length (take n (b ∷ xs))) s (omega arith)
      | inr q ↦ cc (rw q at e)
    ]

-- one more digit
shown-more : (n b : ℕ) → 0 < n → 48 ≤ b → b ≤ 57 → map (λ d. d + 48) (digits_of 10 (n * 10 + (b - 48))) ≡ map (λ d. d + 48) (digits_of 10 n) ++ b ∷ []
shown-more n b pos low high =
    let q : (n * 10 + (b - 48)) / 10 ≡ n = omega arith in
    let r : (n * 10 + (b - 48)) % 10 ≡ b - 48 = omega arith in
    let s : b - 48 + 48 ≡ b = omega arith in
    ap (map (λ d. d + 48)) (digits_of_step 10 (n * 10 + (b - 48)) (omega arith) (omega arith) ∙ ap (λ m. digits_of 10 m ++ ((n * 10 + (b - 48)) % 10 ∷ [])) q ∙ ap (λ m. digits_of 10 n ++ m ∷ []) r)
    ∙ map-append (λ d. d + 48) (digits_of 10 n) ((b - 48) ∷ []) ∙ ap (λ m. map (λ d. d + 48) (digits_of 10 n) ++ m ∷ []) s

shown-one : (b : ℕ) → 48 < b → b ≤ 57 → map (λ d. d + 48) (digits_of 10 (b - 48)) ≡ b ∷ []
shown-one b low high =
    let q : (b - 48) / 10 ≡ 0 = omega arith in
    let r : (b - 48) % 10 ≡ b - 48 = omega arith in
    let s : b - 48 + 48 ≡ b = omega arith in
    ap (map (λ d. d + 48)) (digits_of_step 10 (b - 48) (omega arith) (omega arith) ∙ ap (λ m. digits_of 10 m ++ ((b - 48) % 10 ∷ [])) q ∙ ap (λ m. m ∷ []) r) ∙ ap (λ m. m ∷ []) s

value-shown : (limit n v : ℕ) (ds : List ℕ) → 0 < n → n ≤ limit → Each IsDigit ds → value_after limit n ds ≡ Some v
    → (map (λ d. d + 48) (digits_of 10 v) ≡ map (λ d. d + 48) (digits_of 10 n) ++ ds) × (0 < v) × (v ≤ limit)
value-shown limit n v [] pos le is h =
    let e : n ≡ v = cc h in
    let P : ℕ → Type 0 = λ m. (map (λ d. d + 48) (digits_of 10 m) ≡ map (λ d. d + 48) (digits_of 10 n) ++ []) × (0 < m) × (m ≤ limit) in
    subst P e (sym (append-nil (map (λ d. d + 48) (digits_of 10 n))), pos, le)
value-shown limit n v (b ∷ ds) pos le is h = elim (cases_Bool (nat_le (n * 10 + (b - 48)) limit)) [
  | inr e ↦ cc (rw e at h)
  | inl e ↦
      let range = digit-range b is.0 in
      let more = value-shown limit (n * 10 + (b - 48)) v ds (omega arith) (leb-true _ _ e) is.1 (rw e at h) in
      (more.0 ∙ ap (λ l. l ++ ds) (shown-more n b pos range.0 range.1) ∙ append_assoc (map (λ d. d + 48) (digits_of 10 n)) (b ∷ []) ds, more.1, more.2)
]

shown : (v : ℕ) → 0 < v → shown_number v ≡ map (λ d. d + 48) (digits_of 10 v)
shown v pos = elim (cases_Bool (v == 0)) [ inl e ↦ absurd (omega (arith, eqb-true v 0 e)) | inr e ↦ rw e refl ]

value-is : (limit v : ℕ) (ds : List ℕ) → Each IsDigit ds → 0 < length ds → leads_zero ds ≡ false → value_after limit 0 ds ≡ Some v → (ds ≡ shown_number v) × (v ≤ limit)
value-is limit v [] is some first h = absurd (omega arith)
value-is limit v (b ∷ ds) is some first h = elim (cases_Bool (nat_le (0 * 10 + (b - 48)) limit)) [
  | inr e ↦ cc (rw e at h)
  | inl e ↦
      let range = digit-range b is.0 in
      let zero-first : 0 * 10 + (b - 48) ≡ b - 48 = omega arith in
      let le = leb-true _ _ e in
      let k : value_after limit (b - 48) ds ≡ Some v = subst (λ m. value_after limit m ds ≡ Some v) zero-first (rw e at h) in
      elim (cases_Bool (b == 48)) [
        | inl z ↦ first-zero b ds (eqb-true b 48 z) first k (omega arith)
        | inr z ↦
            let above : 48 < b = above48 b range.0 z in
            let s = value-shown limit (b - 48) v ds (omega arith) (omega arith) is.1 k in
            (sym (shown v s.1 ∙ s.0 ∙ ap (λ l. l ++ ds) (shown-one b above range.1)), s.2)
      ]
]
  where
    above48 : (b : ℕ) → 48 ≤ b → (b == 48) ≡ false → 48 < b
    above48 b low z = grind (arith, nat_tests)

    first-zero : (b : ℕ) (ds : List ℕ) → b ≡ 48 → leads_zero (b ∷ ds) ≡ false → value_after limit (b - 48) ds ≡ Some v → 0 ≤ limit → (b ∷ ds ≡ shown_number v) × (v ≤ limit)
    first-zero b [] is first k le =
        let e : b - 48 ≡ v = cc k in
        let z : 0 ≡ v = omega arith in
        let P : ℕ → Type 0 = λ m. (b ∷ [] ≡ shown_number m) × (m ≤ limit) in
        subst P z (ap (λ m. m ∷ []) is, le)
    first-zero b (c ∷ ds) is first k le = cc (rw is at first)

shown-is : (limit v : ℕ) (xs ys : List ℕ) → number_at limit xs ≡ Some (v, ys) → (xs ≡ shown_number v ++ ys) × (v ≤ limit)
unfolding number_at
shown-is limit v xs ys h =
    let d = then_some (digits_at xs) (number_by limit) (v, ys) h in
    let s = digits-is d.0.0 xs d.0.1 d.1 in
    elim (cases_Bool (leads_zero d.0.0)) [
      | inl e ↦ cc (rw e at d.2)
      | inr e ↦
          let k : (value_after limit 0 d.0.0 >>= λ n. Some (n, d.0.1)) ≡ Some (v, ys) = rw e at d.2 in
          let w = then_some (value_after limit 0 d.0.0) (λ n. Some (n, d.0.1)) (v, ys) k in
          let p = pair_parts w.0 v d.0.1 ys w.2 in
          let r = value-is limit v d.0.0 s.1 s.2 e (w.1 ∙ ap (λ m. Some m) p.0) in
          (s.0 ∙ ap (λ l. l ++ d.0.1) r.0 ∙ ap (λ l. shown_number v ++ l) p.1, r.1)
    ]

pub digits-count : (ds ys : List ℕ) → Each IsDigit ds → digits ys ≡ 0 → digits (ds ++ ys) ≡ length ds
digits-count [] ys is none = none
digits-count (b ∷ ds) ys (is, more) none = rw (is, one-add) (ap suc (digits-count ds ys more none))

pub digits-back : (ds ys : List ℕ) → Each IsDigit ds → 0 < length ds → digits ys ≡ 0 → digits_at (ds ++ ys) ≡ Some (ds, ys)
unfolding digits_at
digits-back ds ys is some none =
    rw (digits-count ds ys is none) (rw (above (length ds) some) (rw (take-append_seam ds ys) (rw (drop-append_seam ds ys) refl)))
  where
    above : (n : ℕ) → 0 < n → (n == 0) ≡ false
    above n h = grind (arith, nat_tests)

shown-digits : (es : List ℕ) → AllBelowBase 10 es → Each IsDigit (map (λ d. d + 48) es)
shown-digits [] all = tt
shown-digits (e ∷ es) all = (shown-digit e all.0, shown-digits es all.1)
  where
    shown-digit : (e : ℕ) → e < 10 → is_digit (e + 48) ≡ true
    shown-digit e h = grind (arith, nat_tests)

shown-first : (es : List ℕ) → 0 < get_or es 0 0 → (leads_zero (map (λ d. d + 48) es) ≡ false) × (0 < length (map (λ d. d + 48) es))
shown-first [] h = absurd (omega (arith, h))
shown-first (e ∷ []) h = (refl, omega arith)
shown-first (e ∷ f ∷ es) h = (apart e h, omega arith)
  where
    apart : (e : ℕ) → 0 < e → (e + 48 == 48) ≡ false
    apart e h = grind (arith, nat_tests)

shown-value : (limit m : ℕ) (es : List ℕ) → number_from_digits_after 10 m es ≤ limit → value_after limit m (map (λ d. d + 48) es) ≡ Some (number_from_digits_after 10 m es)
shown-value limit m [] le = refl
shown-value limit m (e ∷ es) le =
    let same : m * 10 + (e + 48 - 48) ≡ m * 10 + e = omega arith in
    let near = number_after_ge 10 (m * 10 + e) es (omega arith) in
    let small : nat_le (m * 10 + e) limit ≡ true = le-leb (m * 10 + e) limit (omega arith) in
    rw same (rw small (shown-value limit (m * 10 + e) es le))

decimal-back : (limit n : ℕ) (ys : List ℕ) → 0 < n → n ≤ limit → digits ys ≡ 0 → number_at limit (map (λ d. d + 48) (digits_of 10 n) ++ ys) ≡ Some (n, ys)
unfolding number_at
decimal-back limit n ys pos le none =
    let s = shown-first (digits_of 10 n) (first_digits_of 10 n (omega arith) pos) in
    let v : number_from_digits 10 (digits_of 10 n) ≡ n = number_digits_of 10 n (omega arith) in
    let w = shown-value limit 0 (digits_of 10 n) (omega (arith, v)) in
    rw (digits-back (map (λ d. d + 48) (digits_of 10 n)) ys (shown-digits (digits_of 10 n) (all_below_base_digits_of 10 n (omega arith))) s.1 none)
    (rw s.0 (rw w (ap (λ m. Some (m, ys)) v)))

zero-back : (limit : ℕ) (ys : List ℕ) → digits ys ≡ 0 → number_at limit (48 ∷ ys) ≡ Some (0, ys)
unfolding number_at
zero-back limit ys none =
    rw (digits-back (48 ∷ []) ys (refl, tt) (omega arith) none) (rw (le-leb 0 limit (omega arith)) refl)

shown-back : (limit n : ℕ) (ys : List ℕ) → n ≤ limit → digits ys ≡ 0 → number_at limit (shown_number n ++ ys) ≡ Some (n, ys)
shown-back limit n ys le none = elim (cases_Bool (n == 0)) [
  | inl e ↦ rw e (zero-back limit ys none ∙ ap (λ m. Some (m, ys)) (sym (eqb-true n 0 e)))
  | inr e ↦ rw e (decimal-back limit n ys (above n e) le none)
]
  where
    above : (n : ℕ) → (n == 0) ≡ false → 0 < n
    above n e = grind (arith, nat_tests)

plus-map : (es : List ℕ) → map (λ d. 48 + d) es ≡ map (λ d. d + 48) es
plus-map [] = refl
plus-map (e ∷ es) = let one : 48 + e ≡ e + 48 = omega arith in ap (λ v. v ∷ map (λ d. 48 + d) es) one ∙ ap (λ l. (e + 48) ∷ l) (plus-map es)

decimal-zero : decimal 0 ≡ 48 ∷ []
unfolding digits'
decimal-zero = refl

decimal-shown : (n : ℕ) → n < 2 ^ 64 → decimal n ≡ shown_number n
decimal-shown n small = elim (cases_Bool (n == 0)) [
  | inl e ↦ rw e (ap decimal (eqb-true n 0 e) ∙ decimal-zero)
  | inr e ↦ rw e (decimal-digits_of n (above n e) small ∙ plus-map (digits_of 10 n))
]
  where
    above : (n : ℕ) → (n == 0) ≡ false → 0 < n
    above n e = grind (arith, nat_tests)

pub number-format : (limit : ℕ) → limit < 2 ^ 64 → Format decimal (λ n. n ≤ limit) (λ ys. digits ys ≡ 0) (number_at limit)
number-format limit small = record { sound = sound'; complete = complete' }
  where
    sound' : (n : ℕ) (xs ys : List ℕ) → number_at limit xs ≡ Some (n, ys) → (xs ≡ decimal n ++ ys) × (n ≤ limit)
    sound' n xs ys h =
        let s = shown-is limit n xs ys h in
        (s.0 ∙ ap (λ l. l ++ ys) (sym (decimal-shown n (omega arith))), s.1)

    complete' : (n : ℕ) (ys : List ℕ) → n ≤ limit → digits ys ≡ 0 → number_at limit (decimal n ++ ys) ≡ Some (n, ys)
    complete' n ys le none = ap (λ l. number_at limit (l ++ ys)) (decimal-shown n (omega arith)) ∙ shown-back limit n ys le none

-- a number does not begin with a dash
no-dash : (es ys : List ℕ) → byte_at 45 ys ≡ None → byte_at 45 (map (λ d. d + 48) es ++ ys) ≡ None
no-dash [] ys none = none
no-dash (e ∷ es) ys none = rw (apart e) refl
  where
    apart : (e : ℕ) → (e + 48 == 45) ≡ false
    apart e = grind (arith, nat_tests)

shown-no-dash : (n : ℕ) (ys : List ℕ) → byte_at 45 ys ≡ None → byte_at 45 (shown_number n ++ ys) ≡ None
shown-no-dash n ys none = elim (cases_Bool (n == 0)) [
  | inl e ↦ rw e refl
  | inr e ↦ rw e (no-dash (digits_of 10 n) ys none)
]

pub decimal-no-dash : (n : ℕ) (ys : List ℕ) → n < 2 ^ 64 → byte_at 45 ys ≡ None → byte_at 45 (decimal n ++ ys) ≡ None
decimal-no-dash n ys small none = ap (λ l. byte_at 45 (l ++ ys)) (decimal-shown n small) ∙ shown-no-dash n ys none

-- a number's digits, after others
pub one_digit : (n : ℕ) (before : List ℕ) → n < 10 → before ++ (48 + n) ∷ [] ≡ before ++ decimal n
one_digit n before small = ap (λ z. before ++ z) (sym (decimal_digit n small))

pub last_digit : (n : ℕ) (before : List ℕ) → 10 ≤ n → n < 2 ^ 64 → (before ++ decimal (n / 10)) ++ (48 + n % 10) ∷ [] ≡ before ++ decimal n
last_digit n before large small = append_assoc before (decimal (n / 10)) ((48 + n % 10) ∷ []) ∙ ap (λ z. before ++ z) (sym (decimal_step n large small))

-- a level from 1
pub positive-is : (r : ℕ × List ℕ) (n : ℕ) (ys : List ℕ) → positive r ≡ Some (n, ys) → (r ≡ (n, ys)) × (1 ≤ n)
positive-is r n ys h = elim (cases_Bool (r.0 == 0)) [
  | inl e ↦ cc (rw e at h)
  | inr e ↦
      let k : ◌≡◌ {A = Option (ℕ × List ℕ)} (Some r) (Some (n, ys)) = rw e at h in
      let p = same_Some r (n, ys) k in
      (p, subst (λ m. 1 ≤ m) (ap (λ z. z.0) p) (above-zero r.0 e))
]
  where
    above-zero : (m : ℕ) → (m == 0) ≡ false → 1 ≤ m
    above-zero m e = grind (arith, nat_tests)

pub not-zero : (n : ℕ) → 1 ≤ n → (n == 0) ≡ false
not-zero n h = grind (arith, nat_tests)
