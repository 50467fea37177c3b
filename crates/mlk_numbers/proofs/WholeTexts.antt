-- The digits of whole numbers below 10^15.
use Rattle.std.proofs.Common.{◌≡◌, ◌<◌, ◌≤◌, ◌+◌, ◌-◌, ◌*◌, ◌^◌, ℕ, suc, ℤ, pos, negsuc, List, [], ◌∷◌, length, take, drop, get_or, true, Some, sym, ap, ◌∙◌, arith, subst, inl, inr, decimal, take-append-drop, take-suc, add-one, length-take}
use Rattle.std.proofs.Math.Nat.{pow-le-pow_right}
use Rattle.std.proofs.lemmas.Fmt.{decimal-digits_value, digits_decimal, decimal_nonempty, length-decimal-le, first_decimal, decimal_digit}
use Rattle.std.proofs.lemmas.Str.Parse.{digit_at}
use Rattle.std.proofs.lemmas.Option.{same_Some}
use Rattle.std.proofs.lemmas.Bool.{cases_eq}
use Rattle.mlk_text.specs.Lexemes.{byte_at, are_digits}
use Rattle.mlk_numbers.specs.Numbers.{number_of_digits}
use Rattle.mlk_numbers.specs.Folding.{IsPlain, IsWhole}
use Rattle.mlk_text.proofs.Lexemes.{byte-is}
use Rattle.mlk_numbers.proofs.Numerals.{own, digits-split, number-append, number-below}

-- the number of one more digit
pub number_more : (ds : List ℕ) (i : ℕ) → i < length ds → number_of_digits (take (i + 1) ds) ≡ 10 * number_of_digits (take i ds) + (get_or ds i 0 - 48)
number_more ds i h =
    let last : List ℕ = get_or ds i 0 ∷ [] in
    ap number_of_digits (ap (λ n. take n ds) (add-one i) ∙ take-suc ds i 0 h) ∙ number-append (take i ds) last ∙ omega arith

pub digits_taken : (ds : List ℕ) (i : ℕ) → are_digits ds ≡ true → are_digits (take i ds) ≡ true
digits_taken ds i h = (digits-split (take i ds) (drop i ds) (subst (λ l. are_digits l ≡ true) (sym (take-append-drop i ds)) h)).0

pub number_few : (ds : List ℕ) (i : ℕ) → are_digits ds ≡ true → length ds ≤ 15 → i < length ds → number_of_digits (take i ds) < 10 ^ 14
number_few ds i h few within =
    let less = number-below (take i ds) (digits_taken ds i h) in
    let size : length (take i ds) ≤ 14 = omega (arith, length-take i ds) in
    let far : 10 ^ length (take i ds) ≤ 10 ^ 14 = pow-le-pow_right (omega arith) size in
    omega arith

-- digits without a leading zero are those of their number
pub plain-number : (ds : List ℕ) → IsPlain ds → (number_of_digits ds < 10 ^ 15) × (ds ≡ decimal (number_of_digits ds))
plain-number ds h =
    let less = number-below ds h.shape in
    let far : 10 ^ length ds ≤ 10 ^ 15 = pow-le-pow_right (omega arith) h.few in
    (omega arith, sym (decimal-digits_value own ds h.shape h.some_digit h.no_leading_zero (omega arith)))

pub decimal-plain : (n : ℕ) → n < 10 ^ 15 → IsPlain (decimal n)
decimal-plain n h = record {
  shape = digits_decimal own n (omega arith);
  some_digit = decimal_nonempty n (omega arith);
  few = length-decimal-le 15 n (omega arith) h (omega arith);
  no_leading_zero = λ first. elim (cases_eq n 0) [
    | inl none ↦ ap length (ap decimal none ∙ decimal_digit 0 (omega arith))
    | inr some ↦ let f = first_decimal n (omega arith) (omega arith) in absurd (omega arith)
  ];
}

pub digit_within : (ds : List ℕ) (i : ℕ) → are_digits ds ≡ true → i < length ds → (48 ≤ get_or ds i 0) × (get_or ds i 0 ≤ 57)
digit_within ds i h l = digit_at ds i (own.to ds h) l

-- if a sign is followed only by the digits of 0, or by none of a number, the text is not that of a whole number
pub not_negative : (text digits : List ℕ) → ((n : ℕ) → n < 10 ^ 15 → digits ≡ decimal n → 0 < n → ⊥) → (byte_at 45 text ≡ Some (45, digits)) → (z : ℤ) → IsWhole z text → ⊥
not_negative text digits none signed (negsuc n) h =
    let same = same_Some (45, digits) (45, decimal (suc n)) (sym signed ∙ ap (byte_at 45) h.1) in
    none (suc n) h.0 (ap (λ p. p.1) same) (omega arith)
not_negative text digits none signed (pos n) h =
    let shape : are_digits (45 ∷ digits) ≡ true = subst (λ l. are_digits l ≡ true) (sym h.1 ∙ byte-is 45 45 text digits signed) (digits_decimal own n (let few = h.0 in omega arith)) in
    cc shape
