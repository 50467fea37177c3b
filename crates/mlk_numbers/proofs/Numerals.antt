-- Digits and the numbers that they denote.
use Rattle.std.proofs.Common.{◌≡◌, ◌<◌, ◌≤◌, ◌+◌, ◌-◌, ◌*◌, ◌^◌, ℕ, zero, suc, ◌++◌, List, [], ◌∷◌, length, take, drop, replicate, true, false, Some, None, refl, sym, ap, ◌∙◌, arith, subst, inl, inr, length-append, take-append-drop, append-nil, rules, one-add, pow-add, pow-suc, mul-le-mul_right}
use Rattle.std.specs.Prelude.{◌==◌, nat_le, nat_lt, ◌⊎◌}
use Rattle.std.proofs.lemmas.Bool.{cases_Bool, eqb-true, and_parts, and_from, leb-true, le-leb, ltb-false, both_ways}
use Rattle.std.proofs.lemmas.Option.{same_Some, none-some}
use Rattle.std.proofs.lemmas.Str.Parse.{IsNumeralModel, IsDigitsTest, numerals_by_weight}
use Rattle.mlk_text.specs.Lexemes.{is_digit, digits, are_digits}
use Rattle.mlk_numbers.specs.Numbers.{number_of_digits, after_point, IsNumeral}

pub digit-bounds : (d : ℕ) → is_digit d ≡ true → (48 ≤ d) × (d ≤ 57)
digit-bounds d h = let p = and_parts (nat_le 48 d) (nat_le d 57) h in (leb-true 48 d p.0, leb-true d 57 p.1)

pub digit-from : (d : ℕ) → 48 ≤ d → d ≤ 57 → is_digit d ≡ true
digit-from d low high = and_from (nat_le 48 d) (nat_le d 57) (le-leb 48 d low) (le-leb d 57 high)

pub digits-parts : (d : ℕ) (ds : List ℕ) → are_digits (d ∷ ds) ≡ true → (is_digit d ≡ true) × (are_digits ds ≡ true)
digits-parts d ds h = and_parts (is_digit d) (are_digits ds) h

pub digits-more : (d : ℕ) (ds : List ℕ) → is_digit d ≡ true → are_digits ds ≡ true → are_digits (d ∷ ds) ≡ true
digits-more d ds f g = and_from (is_digit d) (are_digits ds) f g

pub digits-append : (xs ys : List ℕ) → are_digits xs ≡ true → are_digits ys ≡ true → are_digits (xs ++ ys) ≡ true
digits-append [] ys f g = g
digits-append (d ∷ xs) ys f g = let p = digits-parts d xs f in digits-more d (xs ++ ys) p.0 (digits-append xs ys p.1 g)

pub digits-split : (xs ys : List ℕ) → are_digits (xs ++ ys) ≡ true → (are_digits xs ≡ true) × (are_digits ys ≡ true)
digits-split [] ys h = (refl, h)
digits-split (d ∷ xs) ys h =
    let p = digits-parts d (xs ++ ys) h in
    let r = digits-split xs ys p.1 in
    (digits-more d xs p.0 r.0, r.1)

-- std's functions for digits and their value
pub own : IsNumeralModel (λ ds. are_digits ds ≡ true) number_of_digits
own = numerals_by_weight (λ ds. are_digits ds ≡ true) test number_of_digits (search rules)
  where
    test : IsDigitsTest (λ ds. are_digits ds ≡ true)
    test = record {
      empty = refl;
      parts = λ c cs h. let p = digits-parts c cs h in (let b = digit-bounds c p.0 in search rules, p.1);
      more = λ c cs f g. digits-more c cs (digit-from c (search rules) (search rules)) g;
    }

pub number-append : (xs ys : List ℕ) → number_of_digits (xs ++ ys) ≡ number_of_digits xs * 10 ^ length ys + number_of_digits ys
number-append [] ys = omega arith
number-append (d ∷ xs) ys = rw (length-append xs ys, pow-add 10 (length xs) (length ys), number-append xs ys) (omega arith)

pub number-zeros : (n : ℕ) → number_of_digits (replicate n 48) ≡ 0
number-zeros zero = refl
number-zeros (suc n) = omega (arith, number-zeros n)

pub number-below : (ds : List ℕ) → are_digits ds ≡ true → number_of_digits ds < 10 ^ length ds
number-below [] h = omega arith
number-below (d ∷ ds) h =
    let p = digits-parts d ds h in
    let b = digit-bounds d p.0 in
    let less = number-below ds p.1 in
    let nine : (d - 48) * 10 ^ length ds ≤ 9 * 10 ^ length ds = mul-le-mul_right (10 ^ length ds) (omega arith) in
    rw (pow-suc 10 (length ds)) (omega arith)

pub digits-take : (xs : List ℕ) → are_digits (take (digits xs) xs) ≡ true
digits-take [] = refl
digits-take (d ∷ xs) = elim (cases_Bool (is_digit d)) [
  | inl e ↦ rw (e, one-add) (digits-more d (take (digits xs) xs) e (digits-take xs))
  | inr e ↦ rw e refl
]

-- digits that end before another byte, or at the end
pub digits-front : (ds ys : List ℕ) → are_digits ds ≡ true → digits ys ≡ 0 → (take (digits (ds ++ ys)) (ds ++ ys) ≡ ds) × (drop (digits (ds ++ ys)) (ds ++ ys) ≡ ys)
digits-front [] ys h none = rw none (refl, refl)
digits-front (d ∷ ds) ys h none =
    let p = digits-parts d ds h in
    let r = digits-front ds ys p.1 none in
    rw (p.0, one-add) (ap (λ l. d ∷ l) r.0, r.1)

-- the parts of a literal are found by its point
pub numeral-to : (before after text : List ℕ) → IsNumeral before after text → (take (digits text) text ≡ before) × (after_point (drop (digits text) text) ≡ Some after)
numeral-to before after text h = elim h.spelled [
  | inl e ↦
      let r = digits-front before [] h.whole_part refl in
      let is : before ++ [] ≡ text = append-nil before ∙ sym e.0 in
      subst (λ l. (take (digits l) l ≡ before) × (after_point (drop (digits l) l) ≡ Some after)) is (r.0, ap after_point r.1 ∙ ap Some (sym e.1))
  | inr e ↦
      let r = digits-front before (46 ∷ after) h.whole_part refl in
      subst (λ l. (take (digits l) l ≡ before) × (after_point (drop (digits l) l) ≡ Some after)) (sym e) (r.0, ap after_point r.1)
]

pub numeral-from : (after text : List ℕ) → after_point (drop (digits text) text) ≡ Some after → are_digits after ≡ true → 0 < length (take (digits text) text) + length after
    → IsNumeral (take (digits text) text) after text
numeral-from after text is digits-after some = record {
  whole_part = digits-take text;
  fraction = digits-after;
  some_digit = some;
  spelled = go (drop (digits text) text) (take-append-drop (digits text) text) is;
}
  where
    go : (rest : List ℕ) → take (digits text) text ++ rest ≡ text → after_point rest ≡ Some after
        → ((text ≡ take (digits text) text) × (after ≡ [])) ⊎ (text ≡ take (digits text) text ++ 46 ∷ after)
    go [] whole none = inl (sym whole ∙ append-nil (take (digits text) text), sym (same_Some [] after none))
    go (b ∷ rest) whole point = elim (cases_Bool (b == 46)) [
      | inl e ↦ inr (sym whole ∙ ap (λ l. take (digits text) text ++ l) (ap (λ c. c ∷ rest) (eqb-true b 46 e) ∙ ap (λ l. 46 ∷ l) (same_Some rest after (rw e at point))))
      | inr e ↦ cc (rw e at point)
    ]

-- without a point after the digits, a fraction after the point, or any digit, there is no literal
pub no_point : (before after text : List ℕ) → after_point (drop (digits text) text) ≡ None → IsNumeral before after text → ⊥
no_point before after text none h = none-some after (sym none ∙ (numeral-to before after text h).1)

pub no_fraction : (found before after text : List ℕ) → after_point (drop (digits text) text) ≡ Some found → are_digits found ≡ false → IsNumeral before after text → ⊥
no_fraction found before after text is other h =
    let same = same_Some found after (sym is ∙ (numeral-to before after text h).1) in
    both_ways (are_digits found) other (ap are_digits same ∙ h.fraction)

pub no_digit : (found before after text : List ℕ) → after_point (drop (digits text) text) ≡ Some found
    → nat_lt 0 (length (take (digits text) text) + length found) ≡ false → IsNumeral before after text → ⊥
no_digit found before after text is none h =
    let r = numeral-to before after text h in
    let front = ap length r.0 in
    let back = ap length (same_Some found after (sym is ∙ r.1)) in
    let empty = ltb-false 0 (length (take (digits text) text) + length found) none in
    let some = h.some_digit in
    absurd (omega arith)

-- a literal has one pair of parts
pub one_numeral : (before after front back text : List ℕ) → IsNumeral before after text → IsNumeral front back text → (before ≡ front) × (after ≡ back)
one_numeral before after front back text f g =
    let p = numeral-to before after text f in
    let q = numeral-to front back text g in
    (sym p.0 ∙ q.0, same_Some after back (sym p.1 ∙ q.1))
