-- The canonical text of a literal, as a function of the literal.
use Rattle.std.proofs.Common.{◌≡◌, ◌+◌, ℕ, ◌++◌, List, length, take, drop, Some, None, true, refl, sym, ap, subst, inl, inr, leb-true, le-leb, ltb-true, lt-ltb}
use Rattle.std.specs.Prelude.{Option, ◌&&◌, nat_le, nat_lt}
use Rattle.std.proofs.lemmas.Option.{same_Some}
use Rattle.std.proofs.lemmas.Bool.{cases_Bool, and_parts, and_from}
use Rattle.mlk_text.specs.Lexemes.{digits, zeros, to_last, are_digits}
use Rattle.mlk_numbers.specs.Numbers.{pointed, after_point, IsExact, IsCanonical}
use Rattle.mlk_numbers.proofs.Numerals.{numeral-to, numeral-from}
use Rattle.mlk_numbers.proofs.Zeros.{significant-from, significant-to}
use Rattle.mlk_numbers.proofs.CanonicalTexts.{canonical-made}
use Rattle.mlk_numbers.proofs.NumberLaws.{one_canonical}
use Rattle.mlk_numbers.specs.Outcome.{Finds}
use Rattle.mlk_numbers.specs.Canonical.{are_exact, canonical_by, canonical_text}
use Rattle.mlk_numbers.specs.NumberLaws.{GivesCanonical}

exact-from : (before after : List ℕ) → are_exact before after ≡ true → IsExact before after
exact-from before after h =
    let p = and_parts (nat_le (length before) 25 && nat_le (length after) 25) (nat_le (to_last (before ++ after)) (zeros (before ++ after) + 15)) h in
    let q = and_parts (nat_le (length before) 25) (nat_le (length after) 25) p.0 in
    record {
      few_before = leb-true (length before) 25 q.0;
      few_after = leb-true (length after) 25 q.1;
      significant = significant-from 15 (before ++ after) (leb-true (to_last (before ++ after)) (zeros (before ++ after) + 15) p.1);
    }

exact-to : (before after : List ℕ) → IsExact before after → are_exact before after ≡ true
exact-to before after h =
    and_from (nat_le (length before) 25 && nat_le (length after) 25) (nat_le (to_last (before ++ after)) (zeros (before ++ after) + 15))
    (and_from (nat_le (length before) 25) (nat_le (length after) 25) (le-leb (length before) 25 h.few_before) (le-leb (length after) 25 h.few_after))
    (le-leb (to_last (before ++ after)) (zeros (before ++ after) + 15) (significant-to 15 (before ++ after) h.significant))

pub canonical-sound : (text value : List ℕ) → canonical_text text ≡ Some value → IsCanonical text value
unfolding canonical_text
canonical-sound text value h = go (after_point (drop (digits text) text)) refl h
  where
    go : (o : Option (List ℕ)) → after_point (drop (digits text) text) ≡ o → canonical_by (take (digits text) text) o ≡ Some value → IsCanonical text value
    go None is h = cc h
    go (Some after) is h =
        let before : List ℕ = take (digits text) text in
        elim (cases_Bool (are_digits after && nat_lt 0 (length before + length after) && are_exact before after)) [
          | inr e ↦ cc (rw e at h)
          | inl e ↦
              let p = and_parts (are_digits after && nat_lt 0 (length before + length after)) (are_exact before after) e in
              let q = and_parts (are_digits after) (nat_lt 0 (length before + length after)) p.0 in
              let numeral = numeral-from after text is q.0 (ltb-true 0 (length before + length after) q.1) in
              let made = canonical-made before after text numeral (exact-from before after p.1) in
              subst (IsCanonical text) (same_Some (pointed (drop (zeros before) before) (take (to_last after) after)) value (rw e at h)) made
        ]

pub canonical-complete : (text value : List ℕ) → IsCanonical text value → canonical_text text ≡ Some value
unfolding canonical_text
canonical-complete text value h =
    let r = numeral-to h.before h.after text h.numeral in
    let made = canonical-made h.before h.after text h.numeral h.exact in
    let same = one_canonical.one text value (pointed (drop (zeros h.before) h.before) (take (to_last h.after) h.after)) h made in
    let some : nat_lt 0 (length h.before + length h.after) ≡ true = lt-ltb 0 (length h.before + length h.after) h.numeral.some_digit in
    rw (r.0, r.1) (rw (h.numeral.fraction, some, exact-to h.before h.after h.exact) (ap Some (sym same)))

-- what finds the canonical text agrees with this function
pub canonical-finds : (text : List ℕ) (o : Option (List ℕ)) → Finds (IsCanonical text) o → canonical_text text ≡ o
canonical-finds text (Some value) h = canonical-complete text value h
canonical-finds text None h = go (canonical_text text) refl
  where
    go : (o : Option (List ℕ)) → canonical_text text ≡ o → o ≡ None
    go None is = refl
    go (Some value) is = absurd (h value (canonical-sound text value is))

-- if there is no canonical text, the function returns `None`
pub canonical-none : (text : List ℕ) → ((value : List ℕ) → IsCanonical text value → ⊥) → canonical_text text ≡ None
canonical-none text h = canonical-finds text None h

pub gives_canonical : GivesCanonical
gives_canonical literal text = (canonical-sound literal text, canonical-complete literal text)
