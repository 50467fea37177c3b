-- Each exact literal has exactly one canonical text.
use Rattle.std.proofs.Common.{◌≡◌, ◌+◌, ◌*◌, ◌%◌, ◌^◌, ℕ, ◌++◌, List, length, take, drop, replicate, true, refl, sym, ap, ◌∙◌, arith, subst, inl, inr, length-append, length-take-le, pow-add}
use Rattle.std.specs.Prelude.{◌⊎◌}
use Rattle.std.proofs.lemmas.Bool.{cases_eq}
use lib.ListN.{length-replicate}
use Rattle.mlk_text.specs.Lexemes.{zeros, to_last, are_digits}
use Rattle.mlk_numbers.specs.Numbers.{number_of_digits, pointed, IsNumeral, IsExact, IsLowest, IsCanonical}
use Rattle.mlk_numbers.proofs.Numerals.{digits-split, number-append, number-zeros}
use Rattle.mlk_numbers.proofs.Zeros.{zeros-split, zeros-first, last-split, last_within, last-digit, tens}

-- digits without the zeros before them denote the same number
number-stripped : (ds : List ℕ) → number_of_digits (drop (zeros ds) ds) ≡ number_of_digits ds
number-stripped ds =
    let rest = drop (zeros ds) ds in
    let whole : number_of_digits ds ≡ number_of_digits (replicate (zeros ds) 48 ++ rest) = ap number_of_digits (zeros-split ds) in
    let parts = number-append (replicate (zeros ds) 48) rest in
    let none = number-zeros (zeros ds) in
    sym (whole ∙ parts ∙ rw none (omega arith))

-- a fraction without the zeros after it denotes the same number
fraction-stripped : (ds : List ℕ) → (n : ℕ) × (length ds ≡ length (take (to_last ds) ds) + n) × (number_of_digits ds ≡ number_of_digits (take (to_last ds) ds) * 10 ^ n)
fraction-stripped ds =
    let s = last-split ds in
    let kept = take (to_last ds) ds in
    let size : length (replicate {A = ℕ} s.0 48) ≡ s.0 = length-replicate s.0 48 in (
      s.0,
      ap length s.1 ∙ length-append kept (replicate s.0 48) ∙ ap (λ n. length kept + n) size,
      ap number_of_digits s.1 ∙ number-append kept (replicate s.0 48) ∙ rw (size, number-zeros s.0) (omega arith),
    )

-- the kept digits are digits
pub kept-whole : (before : List ℕ) → are_digits before ≡ true → are_digits (drop (zeros before) before) ≡ true
kept-whole before h = (digits-split (replicate (zeros before) 48) (drop (zeros before) before) (subst (λ l. are_digits l ≡ true) (zeros-split before) h)).1

pub kept-fraction : (after : List ℕ) → are_digits after ≡ true → are_digits (take (to_last after) after) ≡ true
kept-fraction after h = let s = last-split after in (digits-split (take (to_last after) after) (replicate s.0 48) (subst (λ l. are_digits l ≡ true) s.1 h)).0

-- and form a fraction in lowest terms
pub kept-lowest : (before after : List ℕ) → are_digits after ≡ true
    → IsLowest (number_of_digits (drop (zeros before) before ++ take (to_last after) after)) (length (take (to_last after) after))
kept-lowest before after h = lowest (cases_eq (to_last after) 0)
  where
    lowest : (to_last after ≡ 0) ⊎ (to_last after ≡ 0 → ⊥) → IsLowest (number_of_digits (drop (zeros before) before ++ take (to_last after) after)) (length (take (to_last after) after))
    lowest (inl none) = inl (length-take-le (to_last after) after (last_within after) ∙ none)
    lowest (inr some) =
        let size : length (take (to_last after) after) ≡ to_last after = length-take-le (to_last after) after (last_within after) in
        let kept = number-append (drop (zeros before) before) (take (to_last after) after) in
        let end = tens (number_of_digits (drop (zeros before) before)) (number_of_digits (take (to_last after) after)) (length (take (to_last after) after)) (omega arith) in
        let last = last-digit after h (omega arith) in
        inr (λ bad. last (sym end ∙ ap (λ n. n % 10) (sym kept) ∙ bad))

pub canonical-made : (before after literal : List ℕ) → IsNumeral before after literal → IsExact before after
    → IsCanonical literal (pointed (drop (zeros before) before) (take (to_last after) after))
canonical-made before after literal numeral exact =
    let whole = drop (zeros before) before in
    let fraction = take (to_last after) after in
    let r = fraction-stripped after in
    let joined = number-append before after in
    let kept = number-append whole fraction in
    let same = number-stripped before in
    let far = pow-add 10 (length fraction) r.0 in
    record {
      before = before;
      after = after;
      numerator = number_of_digits (whole ++ fraction);
      places = length fraction;
      numeral = numeral;
      exact = exact;
      lowest = kept-lowest before after numeral.fraction;
      equal = rw (joined, kept, same, r.2, r.1, far) (omega arith);
      spelled = record {
        before = whole;
        after = fraction;
        whole_part = kept-whole before numeral.whole_part;
        fraction = kept-fraction after numeral.fraction;
        no_leading_zero = zeros-first before;
        places = refl;
        number = refl;
        spelled = refl;
      };
    }
