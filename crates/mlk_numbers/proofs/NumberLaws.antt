-- A number has one text.
use Rattle.std.proofs.Common.{◌≡◌, ◌≢◌, ◌<◌, ◌≤◌, ◌+◌, ◌-◌, ◌*◌, ◌%◌, ◌^◌, ℕ, ◌++◌, List, [], ◌∷◌, length, take, drop, get_or, replicate, true, refl, sym, ap, ◌∙◌, arith, subst, inl, inr, length-take-le, length-drop, append-nil, append_assoc, pow-add, le_of_mul-le-mul_right, mul-le-mul_right, add-zero, leb-true, le-leb}
use Rattle.std.specs.Prelude.{◌⊎◌, ◌&&◌, ◌==◌, nat_le}
use Rattle.std.proofs.Math.Nat.{one-le-pow, pow-le-pow_right}
use Rattle.std.proofs.lemmas.Nat.{same_from_place}
use Rattle.std.proofs.lemmas.Bool.{cases_order, cases_Bool, eqb-true, eqb-false, and_parts, and_from}
use lib.ListN.{length-replicate}
use Rattle.mlk_text.specs.Lexemes.{zeros, to_last, is_exact, canonical, canonical_of, are_digits}
use Rattle.mlk_numbers.specs.Numbers.{number_of_digits, pointed, HasSignificant, IsNumeral, IsExact, IsEqual, IsLowest, IsTextOf, IsCanonical}
use Rattle.mlk_numbers.specs.NumberLaws.{OneText, OneCanonical, OneWhole, OneReading, BothRead}
use Rattle.mlk_numbers.proofs.Numerals.{digits-parts, digit-bounds, number-append, number-below, one_numeral}
use Rattle.mlk_numbers.proofs.Zeros.{zeros-split, zeros-after, zeros-some, last_append, last-after, last-split, zeros-first, last_within, significant-from, significant-to, tens}
use Rattle.mlk_numbers.proofs.CanonicalTexts.{canonical-made, kept-whole, kept-fraction, kept-lowest}
use Rattle.mlk_numbers.proofs.Folds as folds

-- one more factor on both sides
cancelled : (a b k : ℕ) → a * 10 ^ k ≡ b * 10 ^ k → a ≡ b
cancelled a b k h =
    let some : 0 < 10 ^ k = one-le-pow k 10 (omega arith) in
    let left : a * 10 ^ k ≤ b * 10 ^ k = omega arith in
    let right : b * 10 ^ k ≤ a * 10 ^ k = omega arith in
    let p : a ≤ b = le_of_mul-le-mul_right left some in
    let q : b ≤ a = le_of_mul-le-mul_right right some in
    omega arith

-- a pair in lowest terms has no more places than an equal one
no_more : (m k n j : ℕ) → IsLowest n j → IsEqual m k n j → k < j → ⊥
no_more m k n j low h less =
    let d : ℕ = j - k in
    let whole : k + d ≡ j = omega arith in
    let power : 10 ^ k * 10 ^ d ≡ 10 ^ j = sym (pow-add 10 k d) ∙ ap (λ i. 10 ^ i) whole in
    let product : m * (10 ^ k * 10 ^ d) ≡ m * 10 ^ j = ap (λ x. m * x) power in
    let far : m * 10 ^ d * 10 ^ k ≡ m * 10 ^ j = omega arith in
    let same : m * 10 ^ d ≡ n = cancelled (m * 10 ^ d) n k (far ∙ h) in
    let ten : (m * 10 ^ d + 0) % 10 ≡ 0 = tens m 0 d (omega arith) in
    go low (ap (λ x. x % 10) (sym same ∙ sym (add-zero (m * 10 ^ d))) ∙ ten)
  where
    go : (j ≡ 0) ⊎ (n % 10 ≢ 0) → n % 10 ≡ 0 → ⊥
    go (inl none) e = absurd (omega arith)
    go (inr some) e = some e

pub pairs-one : (m k n j : ℕ) → IsLowest m k → IsLowest n j → IsEqual m k n j → (m ≡ n) × (k ≡ j)
pairs-one m k n j f g h = elim (cases_order k j) [
  | inl e ↦ (cancelled m n j (h ∙ ap (λ i. n * 10 ^ i) e), e)
  | inr r ↦ elim r [
    | inl less ↦ absurd (no_more m k n j g h less)
    | inr more ↦ absurd (no_more n j m k f (sym h) more)
  ]
]

-- digits of one length that denote one number are the same
digits-one : (xs ys : List ℕ) → length xs ≡ length ys → are_digits xs ≡ true → are_digits ys ≡ true → number_of_digits xs ≡ number_of_digits ys → xs ≡ ys
digits-one [] [] size f g h = refl
digits-one [] (y ∷ ys) size f g h = absurd (omega arith)
digits-one (x ∷ xs) [] size f g h = absurd (omega arith)
digits-one (x ∷ xs) (y ∷ ys) size f g h =
    let p = digits-parts x xs f in
    let q = digits-parts y ys g in
    let same : length xs ≡ length ys = omega arith in
    let below : number_of_digits ys < 10 ^ length xs = subst (λ n. number_of_digits ys < 10 ^ n) (sym same) (number-below ys q.1) in
    let equal : (x - 48) * 10 ^ length xs + number_of_digits xs ≡ (y - 48) * 10 ^ length xs + number_of_digits ys =
    h ∙ ap (λ n. (y - 48) * 10 ^ n + number_of_digits ys) (sym same) in
    let r = same_from_place (x - 48) (number_of_digits xs) (y - 48) (number_of_digits ys) (10 ^ length xs) (number-below xs p.1) below equal in
    let b = digit-bounds x p.0 in
    let c = digit-bounds y q.0 in
    let first : x ≡ y = let s = r.0 in omega arith in
    ap (λ d. d ∷ xs) first ∙ ap (λ l. y ∷ l) (digits-one xs ys same p.1 q.1 r.1)

-- a first digit that is no zero makes the number large
first-large : (d : ℕ) (ds : List ℕ) → are_digits (d ∷ ds) ≡ true → d ≢ 48 → 10 ^ length ds ≤ number_of_digits (d ∷ ds)
first-large d ds h other =
    let b = digit-bounds d (digits-parts d ds h).0 in
    let one : 1 * 10 ^ length ds ≤ (d - 48) * 10 ^ length ds = mul-le-mul_right (10 ^ length ds) (omega arith) in
    omega arith

shorter-less : (xs ys : List ℕ) → are_digits xs ≡ true → are_digits ys ≡ true → get_or ys 0 0 ≢ 48 → length xs < length ys → number_of_digits xs < number_of_digits ys
shorter-less xs [] f g first less = absurd (omega arith)
shorter-less xs (y ∷ ys) f g first less =
    let below = number-below xs f in
    let far : 10 ^ length xs ≤ 10 ^ length ys = pow-le-pow_right (omega arith) (omega arith) in
    let large = first-large y ys g first in
    omega arith

-- digits without a leading zero are determined by their number
leading-one : (xs ys : List ℕ) → are_digits xs ≡ true → are_digits ys ≡ true → get_or xs 0 0 ≢ 48 → get_or ys 0 0 ≢ 48 → number_of_digits xs ≡ number_of_digits ys → xs ≡ ys
leading-one xs ys f g first second h = elim (cases_order (length xs) (length ys)) [
  | inl e ↦ digits-one xs ys e f g h
  | inr r ↦ elim r [
    | inl less ↦ let l = shorter-less xs ys f g second less in absurd (omega arith)
    | inr more ↦ let l = shorter-less ys xs g f first more in absurd (omega arith)
  ]
]

pub texts-one : (m k : ℕ) (text other : List ℕ) → IsTextOf m k text → IsTextOf m k other → text ≡ other
texts-one m k text other f g =
    let below : number_of_digits f.after < 10 ^ k = subst (λ n. number_of_digits f.after < 10 ^ n) f.places (number-below f.after f.fraction) in
    let under : number_of_digits g.after < 10 ^ k = subst (λ n. number_of_digits g.after < 10 ^ n) g.places (number-below g.after g.fraction) in
    let left = number-append f.before f.after ∙ ap (λ n. number_of_digits f.before * 10 ^ n + number_of_digits f.after) f.places in
    let right = number-append g.before g.after ∙ ap (λ n. number_of_digits g.before * 10 ^ n + number_of_digits g.after) g.places in
    let r = same_from_place (number_of_digits f.before) (number_of_digits f.after) (number_of_digits g.before) (number_of_digits g.after) (10 ^ k) below under
    (sym left ∙ f.number ∙ sym g.number ∙ right) in
    let front = leading-one f.before g.before f.whole_part g.whole_part f.no_leading_zero g.no_leading_zero r.0 in
    let back = digits-one f.after g.after (f.places ∙ sym g.places) f.fraction g.fraction r.1 in
    f.spelled ∙ ap (λ l. pointed l f.after) front ∙ ap (λ l. pointed g.before l) back ∙ sym g.spelled

pub one_text : OneText
one_text = record { pairs = pairs-one; texts = texts-one }

-- two fractions that are equal to a third one are equal
equal-both : (m k n j p i : ℕ) → IsEqual m k p i → IsEqual n j p i → IsEqual m k n j
equal-both m k n j p i f g =
    let left : m * 10 ^ i * 10 ^ j ≡ p * 10 ^ k * 10 ^ j = ap (λ x. x * 10 ^ j) f in
    let right : n * 10 ^ i * 10 ^ k ≡ p * 10 ^ j * 10 ^ k = ap (λ x. x * 10 ^ k) g in
    cancelled (m * 10 ^ j) (n * 10 ^ k) i (omega arith)

canonical-one : (literal text other : List ℕ) → IsCanonical literal text → IsCanonical literal other → text ≡ other
canonical-one literal text other f g =
    let parts = one_numeral f.before f.after g.before g.after literal f.numeral g.numeral in
    let moved : IsEqual g.numerator g.places (number_of_digits (f.before ++ f.after)) (length f.after) =
    subst (λ l. IsEqual g.numerator g.places (number_of_digits (f.before ++ l)) (length l)) (sym parts.1)
    (subst (λ l. IsEqual g.numerator g.places (number_of_digits (l ++ g.after)) (length g.after)) (sym parts.0) g.equal) in
    let equal = equal-both f.numerator f.places g.numerator g.places (number_of_digits (f.before ++ f.after)) (length f.after) f.equal moved in
    let pair = pairs-one f.numerator f.places g.numerator g.places f.lowest g.lowest equal in
    let other-text : IsTextOf f.numerator f.places other =
    subst (λ n. IsTextOf n f.places other) (sym pair.0) (subst (λ n. IsTextOf g.numerator n other) (sym pair.1) g.spelled) in
    texts-one f.numerator f.places text other f.spelled other-text

-- if the zeros around exact digits are removed, the rest is exact
significant-inner : (a n : ℕ) (ds : List ℕ) → HasSignificant 15 (replicate a 48 ++ (ds ++ replicate n 48)) → HasSignificant 15 ds
significant-inner a n ds h =
    let all : List ℕ = ds ++ replicate n 48 in
    let few = significant-to 15 (replicate a 48 ++ all) h in
    let front = zeros-after a all in
    let back : to_last all ≡ to_last ds = last-after ds n in
    let size : length (replicate {A = ℕ} a 48) ≡ a = length-replicate a 48 in
    significant-from 15 ds (elim (cases_Bool (to_last all == 0)) [
      | inl e ↦ let none = eqb-true (to_last all) 0 e in omega arith
      | inr e ↦
          let end : to_last (replicate a 48 ++ all) ≡ a + to_last all = last_append (replicate a 48) all ∙ rw e (ap (λ k. k + to_last all) size) in
          elim (cases_Bool (zeros ds == length ds)) [
            | inl whole ↦ let all-zeros = eqb-true (zeros ds) (length ds) whole in let within = last_within ds in omega arith
            | inr part ↦ let same : zeros all ≡ zeros ds = zeros-some ds (replicate n 48) (eqb-false (zeros ds) (length ds) part) in omega arith
          ]
    ])

-- digits that are joined unchanged form a canonical text
itself : (whole fraction : List ℕ) → are_digits whole ≡ true → are_digits fraction ≡ true → get_or whole 0 0 ≢ 48 → IsExact whole fraction
    → IsLowest (number_of_digits (whole ++ fraction)) (length fraction) → IsCanonical (pointed whole fraction) (pointed whole fraction)
itself [] [] w f first exact low = record {
  before = 48 ∷ [];
  after = [];
  numerator = 0;
  places = 0;
  numeral = record { whole_part = refl; fraction = refl; some_digit = omega arith; spelled = inl (refl, refl) };
  exact = record { few_before = omega arith; few_after = omega arith; significant = (1, 0, [], refl, omega arith) };
  lowest = inl refl;
  equal = refl;
  spelled = record { before = []; after = []; whole_part = refl; fraction = refl; no_leading_zero = first; places = refl; number = refl; spelled = refl };
}
itself (d ∷ ds) [] w f first exact low = record {
  before = d ∷ ds;
  after = [];
  numerator = number_of_digits ((d ∷ ds) ++ []);
  places = 0;
  numeral = record { whole_part = w; fraction = refl; some_digit = omega arith; spelled = inl (refl, refl) };
  exact = exact;
  lowest = low;
  equal = refl;
  spelled = record { before = d ∷ ds; after = []; whole_part = w; fraction = refl; no_leading_zero = first; places = refl; number = refl; spelled = refl };
}
itself whole (d ∷ ds) w f first exact low = record {
  before = whole;
  after = d ∷ ds;
  numerator = number_of_digits (whole ++ d ∷ ds);
  places = length (d ∷ ds);
  numeral = record { whole_part = w; fraction = f; some_digit = omega arith; spelled = inr refl };
  exact = exact;
  lowest = low;
  equal = refl;
  spelled = record { before = whole; after = d ∷ ds; whole_part = w; fraction = f; no_leading_zero = first; places = refl; number = refl; spelled = refl };
}

canonical-itself : (literal text : List ℕ) → IsCanonical literal text → IsCanonical text text
canonical-itself literal text h =
    let made = canonical-made h.before h.after literal h.numeral h.exact in
    let whole : List ℕ = drop (zeros h.before) h.before in
    let fraction : List ℕ = take (to_last h.after) h.after in
    let same : text ≡ pointed whole fraction = canonical-one literal text (pointed whole fraction) h made in
    let s = last-split h.after in
    let fewer = length-drop (zeros h.before) h.before in
    let less = length-take-le (to_last h.after) h.after (last_within h.after) in
    let within = last_within h.after in
    let few = h.exact.few_before in
    let little = h.exact.few_after in
    let all : h.before ++ h.after ≡ replicate (zeros h.before) 48 ++ ((whole ++ fraction) ++ replicate s.0 48) =
    ap (λ l. l ++ h.after) (zeros-split h.before) ∙ ap (λ l. (replicate (zeros h.before) 48 ++ whole) ++ l) s.1
    ∙ append_assoc (replicate (zeros h.before) 48) whole (fraction ++ replicate s.0 48)
    ∙ ap (λ l. replicate (zeros h.before) 48 ++ l) (sym (append_assoc whole fraction (replicate s.0 48))) in
    let exact : IsExact whole fraction = record {
      few_before = omega arith;
      few_after = omega arith;
      significant = significant-inner (zeros h.before) s.0 (whole ++ fraction) (subst (HasSignificant 15) all h.exact.significant);
    } in
    let w = kept-whole h.before h.numeral.whole_part in
    let f = kept-fraction h.after h.numeral.fraction in
    let low = kept-lowest h.before h.after h.numeral.fraction in
    subst (λ l. IsCanonical l l) (sym same) (itself whole fraction w f (zeros-first h.before) exact low)

pub one_canonical : OneCanonical
one_canonical = record {
  some = λ before after literal numeral exact. (pointed (drop (zeros before) before) (take (to_last after) after), canonical-made before after literal numeral exact);
  one = canonical-one;
  itself = canonical-itself;
}

pub one_whole : OneWhole
one_whole = record { texts = λ z h. (h, refl); numbers = folds.one_whole }

-- the two ways to count significant digits
counted : (ds : List ℕ) → HasSignificant 15 ds → to_last (drop (zeros ds) ds) ≤ 15
counted ds h =
    let rest : List ℕ = drop (zeros ds) ds in
    let few = significant-to 15 ds h in
    let size : length (replicate {A = ℕ} (zeros ds) 48) ≡ zeros ds = length-replicate (zeros ds) 48 in
    elim (cases_Bool (to_last rest == 0)) [
      | inl e ↦ let none = eqb-true (to_last rest) 0 e in omega arith
      | inr e ↦
          let end : to_last ds ≡ zeros ds + to_last rest =
          ap to_last (zeros-split ds) ∙ last_append (replicate (zeros ds) 48) rest ∙ rw e (ap (λ k. k + to_last rest) size) in
          omega arith
    ]

counted-back : (ds : List ℕ) → to_last (drop (zeros ds) ds) ≤ 15 → HasSignificant 15 ds
counted-back ds h =
    let rest : List ℕ = drop (zeros ds) ds in
    let s = last-split rest in
    let size : length (take (to_last rest) rest) ≡ to_last rest = length-take-le (to_last rest) rest (last_within rest) in
    (zeros ds, s.0, take (to_last rest) rest, zeros-split ds ∙ ap (λ l. replicate (zeros ds) 48 ++ l) s.1, omega arith)

same-text : (ds : List ℕ) → pointed ds [] ≡ canonical_of ds
same-text [] = refl
same-text (d ∷ ds) = refl

both-read : (digits : List ℕ) → are_digits digits ≡ true → 0 < length digits → OneReading digits
unfolding is_exact canonical
both-read digits shape some = record { reads = reads; alone = alone }
  where
    numeral : IsNumeral digits [] digits
    numeral = record { whole_part = shape; fraction = refl; some_digit = omega arith; spelled = inl (refl, refl) }

    reads : (nat_le (length digits) 25 && nat_le (to_last (drop (zeros digits) digits)) 15) ≡ true → IsCanonical digits (canonical_of (drop (zeros digits) digits))
    reads h =
        let p = and_parts (nat_le (length digits) 25) (nat_le (to_last (drop (zeros digits) digits)) 15) h in
        let few = leb-true (length digits) 25 p.0 in
        let counted = leb-true (to_last (drop (zeros digits) digits)) 15 p.1 in
        let exact : IsExact digits [] = record {
          few_before = few;
          few_after = omega arith;
          significant = subst (HasSignificant 15) (sym (append-nil digits)) (counted-back digits counted);
        } in
        subst (IsCanonical digits) (same-text (drop (zeros digits) digits)) (canonical-made digits [] digits numeral exact)

    alone : (text : List ℕ) → IsCanonical digits text
        → ((nat_le (length digits) 25 && nat_le (to_last (drop (zeros digits) digits)) 15) ≡ true) × (text ≡ canonical_of (drop (zeros digits) digits))
    alone text h =
        let parts = one_numeral h.before h.after digits [] digits h.numeral numeral in
        let whole = subst (λ l. IsExact l h.after) parts.0 h.exact in
        let exact = subst (λ l. IsExact digits l) parts.1 whole in
        let few = counted digits (subst (HasSignificant 15) (append-nil digits) exact.significant) in (
          and_from (nat_le (length digits) 25) (nat_le (to_last (drop (zeros digits) digits)) 15) (le-leb (length digits) 25 exact.few_before)
              (le-leb (to_last (drop (zeros digits) digits)) 15 few),
          canonical-one digits text (pointed (drop (zeros digits) digits) []) h (canonical-made digits [] digits numeral exact) ∙ same-text (drop (zeros digits) digits),
        )

pub both_read : BothRead
both_read = both-read
