-- The lines that occur only in the second format, and their readers.
use Rattle.std.proofs.Common.{◌≡◌, ◌<◌, ◌≤◌, ◌+◌, ◌^◌, ℕ, suc, ◌++◌, List, [], ◌∷◌, length, map, Some, None, true, refl, sym, ap, ◌∙◌, arith, subst, append_assoc, lit<}
use Rattle.std.specs.Prelude.{◌==◌, ◌&&◌, codes}
use Rattle.std.specs.Fmt.{decimal}
use Rattle.std.proofs.lemmas.Bool.{eqb-true}
use Rattle.mlk_text.specs.Reading.{◌>>=◌, with}
use Rattle.mlk_text.specs.Lexemes.{byte_at, digits}
use Rattle.mlk_text.proofs.Readers.{then_some, with_some}
use Rattle.mlk_cert_parts.specs.declared.case.Case.{Case}
use Rattle.mlk_cert_lexemes.specs.Lists.{Each, flat, more, joined, ascends, below}
use Rattle.mlk_cert_parts.specs.Texts.{case_text, place_text}
use Rattle.mlk_cert_parts.specs.Limits.{IsCase, cases_below}
use Rattle.mlk_cert_lexemes.specs.Reading.{word_at, number_at, positive, counted_at, list_at}
use Rattle.mlk_cert_parts.specs.Reading.{case_at}
use Rattle.mlk_cert.specs.Blocks.{fit, rest_at, worded_at, place_at}
use Rattle.mlk_cert.specs.Second.{numbered}
use Rattle.mlk_cert.specs.Numbered.{greatest, NumberedCase, numbered_of, numbered_case_at, fits_numbered, counts_from, numbered_below, fit_numbered, cases_in, cases_at, are_upto, numbers_at, NumberedPoint, numbered_point_of, numbered_point_at, fits_numbered_point}
use Rattle.mlk_cert_lexemes.proofs.Formats.{Format, Anything, byte-is, list-is, list-back, both_true, both_back, same-eqb}
use Rattle.mlk_cert_lexemes.proofs.NumberFormats.{number-format, positive-is, not-zero}
use Rattle.mlk_cert_parts.proofs.CaseFormats.{HasCase, NoSign, case-format}
use Rattle.mlk_cert.proofs.LineFormats.{fit-is, rest-format, worded-is, worded-back}
use Rattle.mlk_cert.proofs.Goods.{case-good, case-has}
use Rattle.mlk_cert.proofs.BlockFormats.{place-is, place-back}

-- numbers from 1
pub counted-format : (limit : ℕ) → limit < 2 ^ 64 → Format decimal (λ n. (1 ≤ n) × (n ≤ limit)) (λ ys. digits ys ≡ 0) (counted_at limit)
counted-format limit small = record { sound = sound'; complete = complete' }
  where
    sound' : (n : ℕ) (xs ys : List ℕ) → counted_at limit xs ≡ Some (n, ys) → (xs ≡ decimal n ++ ys) × ((1 ≤ n) × (n ≤ limit))
    sound' n xs ys h =
        let r = then_some (number_at limit xs) positive (n, ys) h in
        let p = positive-is r.0 n ys r.2 in
        let s = (number-format limit small).sound n xs ys (r.1 ∙ ap (λ z. Some z) p.0) in
        (s.0, (p.1, s.1))

    complete' : (n : ℕ) (ys : List ℕ) → (1 ≤ n) × (n ≤ limit) → digits ys ≡ 0 → counted_at limit (decimal n ++ ys) ≡ Some (n, ys)
    complete' n ys is e = rw ((number-format limit small).complete n ys is.1 e) (rw (not-zero n is.0) refl)

pub case-number-format : Format decimal (λ n. (1 ≤ n) × (n ≤ greatest)) (λ ys. digits ys ≡ 0) (counted_at greatest)
case-number-format = counted-format greatest (lit< tt)

-- cases with their numbers
abbrev pub HasNumbered : NumberedCase → Type 0
HasNumbered l = (1 ≤ l.0) × (l.0 ≤ greatest) × HasCase l.1

abbrev pub numbered_case_text : NumberedCase → List ℕ
numbered_case_text l = decimal l.0 ++ 32 ∷ case_text l.1

numbered-is : (l : NumberedCase) (xs ys : List ℕ) → numbered_case_at xs ≡ Some (l, ys) → (xs ≡ numbered_case_text l ++ ys) × HasNumbered l
unfolding numbered_case_at
numbered-is l xs ys h =
    let n = then_some (counted_at greatest xs) _ (l, ys) h in
    let s = then_some (byte_at 32 n.0.1) _ (l, ys) n.2 in
    let c = with_some (numbered_of n.0.0) (case_at s.0.1) l ys s.2 in
    let a = case-number-format.sound n.0.0 xs n.0.1 n.1 in
    let b = case-format.sound c.0 s.0.1 ys c.1 in
    let P : NumberedCase → Type 0 = λ z. (xs ≡ numbered_case_text z ++ ys) × HasNumbered z in
    subst P (sym c.2) (
      a.0 ∙ ap (λ z. decimal n.0.0 ++ z) ((byte-is 32 s.0.0 n.0.1 s.0.1 s.1).0 ∙ ap (λ z. 32 ∷ z) b.0) ∙ sym (append_assoc (decimal n.0.0) (32 ∷ case_text c.0) ys),
      (a.1.0, a.1.1, b.1),
    )

numbered-back : (l : NumberedCase) (ys : List ℕ) → HasNumbered l → NoSign ys → numbered_case_at (numbered_case_text l ++ ys) ≡ Some (l, ys)
unfolding numbered_case_at
numbered-back l ys (from, to, is) none =
    rw (append_assoc (decimal l.0) (32 ∷ case_text l.1) ys)
    (rw (case-number-format.complete l.0 (32 ∷ (case_text l.1 ++ ys)) (from, to) refl) (rw (case-format.complete l.1 ys is none) refl))

pub numbered-case-format : Format numbered_case_text HasNumbered NoSign numbered_case_at
numbered-case-format = record { sound = numbered-is; complete = numbered-back }

abbrev pub GoodNumbered : NumberedCase → Type 0
GoodNumbered l = HasNumbered l × (fits_numbered l ≡ true)

pub numbered-rest : Format (λ l. numbered_case_text l ++ 10 ∷ []) GoodNumbered Anything (rest_at numbered_case_at fits_numbered)
numbered-rest = rest-format numbered_case_text HasNumbered NoSign numbered_case_at numbered-case-format fits_numbered (λ n. refl)

abbrev numbered_line : NumberedCase → List ℕ
numbered_line l = codes "case " ++ (numbered_case_text l ++ 10 ∷ [])

-- cases with the numbers from this one on
abbrev pub number_from : ℕ → List Case → List NumberedCase
number_from n [] = []
number_from n (c ∷ cases) = (n, c) ∷ number_from (suc n) cases

counted : (n : ℕ) (ls : List NumberedCase) → counts_from n ls ≡ true → number_from n (cases_in ls) ≡ ls
counted n [] h = refl
counted n (l ∷ ls) h =
    let t = both_true (l.0 == n) (counts_from (suc n) ls) h in
    ap (λ (m : ℕ). (m, l.1) ∷ number_from (suc n) (cases_in ls)) (sym (eqb-true l.0 n t.0)) ∙ ap (λ z. l ∷ z) (counted (suc n) ls t.1)

counts : (n : ℕ) (cases : List Case) → counts_from n (number_from n cases) ≡ true
counts n [] = refl
counts n (c ∷ cases) = both_back (n == n) (counts_from (suc n) (number_from (suc n) cases)) (same-eqb n) (counts (suc n) cases)

cases-back : (n : ℕ) (cases : List Case) → cases_in (number_from n cases) ≡ cases
cases-back n [] = refl
cases-back n (c ∷ cases) = ap (λ z. c ∷ z) (cases-back (suc n) cases)

numbered-text : (n : ℕ) (cases : List Case) → flat numbered_line (number_from n cases) ≡ numbered n (map case_text cases)
numbered-text n [] = refl
numbered-text n (c ∷ cases) = ap (λ z. numbered_line (n, c) ++ z) (numbered-text (suc n) cases)

numbered-order : (n : ℕ) (cases : List Case) → ascends numbered_below (number_from n cases) ≡ ascends cases_below cases
numbered-order n [] = refl
numbered-order n (c ∷ []) = refl
numbered-order n (c ∷ d ∷ cases) = ap (λ b. cases_below c d && b) (numbered-order (suc n) (d ∷ cases))

pub texts-order : (cases : List Case) → ascends below (map case_text cases) ≡ ascends cases_below cases
texts-order [] = refl
texts-order (c ∷ []) = refl
texts-order (c ∷ d ∷ cases) = ap (λ b. cases_below c d && b) (texts-order (d ∷ cases))

cases-good : (ls : List NumberedCase) → Each GoodNumbered ls → Each IsCase (cases_in ls)
cases-good [] is = tt
cases-good (l ∷ ls) is = (case-good l.1 is.0.0.2 is.0.1, cases-good ls is.1)

cases-have : (n : ℕ) (cases : List Case) → 1 ≤ n → n + length cases ≤ suc greatest → Each IsCase cases → Each GoodNumbered (number_from n cases)
cases-have n [] from to is = tt
cases-have n (c ∷ cases) from to is =
    let one = case-has c is.0 in
    (((from, omega arith, one.0), one.1), cases-have (suc n) cases (omega arith) (omega arith) is.1)

abbrev pub NoCase : List ℕ → Type 0
NoCase ys = word_at (codes "case ") ys ≡ None

-- the cases in front
pub table-is : (cases : List Case) (xs ys : List ℕ) → with cases_in (cases_at xs) ≡ Some (cases, ys) → (xs ≡ numbered 1 (map case_text cases) ++ ys) × Each IsCase cases × (ascends below (map case_text cases) ≡ true)
unfolding cases_at
table-is cases xs ys h =
    let l = with_some cases_in (worded_at (codes "case ") (rest_at numbered_case_at fits_numbered) xs >>= fit fit_numbered) cases ys h in
    let w = then_some (worded_at (codes "case ") (rest_at numbered_case_at fits_numbered) xs) (fit fit_numbered) (l.0, ys) l.1 in
    let t = fit-is fit_numbered w.0 (l.0, ys) w.2 in
    let s = worded-is (λ l. numbered_case_text l ++ 10 ∷ []) GoodNumbered Anything (rest_at numbered_case_at fits_numbered) numbered-rest (codes "case ") l.0 xs ys (w.1 ∙ ap (λ z. Some z) t.0) in
    let b = both_true (counts_from 1 l.0) (ascends numbered_below l.0) t.1 in
    let listed : number_from 1 (cases_in l.0) ≡ l.0 = counted 1 l.0 b.0 in
    let P : List Case → Type 0 = λ z. (xs ≡ numbered 1 (map case_text z) ++ ys) × Each IsCase z × (ascends below (map case_text z) ≡ true) in
    subst P (sym l.2) (
      s.0 ∙ ap (λ z. flat numbered_line z ++ ys) (sym listed) ∙ ap (λ z. z ++ ys) (numbered-text 1 (cases_in l.0)),
      cases-good l.0 s.1,
      texts-order (cases_in l.0) ∙ sym (numbered-order 1 (cases_in l.0)) ∙ ap (ascends numbered_below) listed ∙ b.1,
    )

pub table-back : (cases : List Case) (ys : List ℕ) → Each IsCase cases → ascends below (map case_text cases) ≡ true → length cases ≤ greatest → NoCase ys → with cases_in (cases_at (numbered 1 (map case_text cases) ++ ys)) ≡ Some (cases, ys)
unfolding cases_at
table-back cases ys is up few none =
    let order : fit_numbered (number_from 1 cases) ≡ true = both_back _ _ (counts 1 cases) (numbered-order 1 cases ∙ sym (texts-order cases) ∙ up) in
    rw (sym (ap (λ z. z ++ ys) (numbered-text 1 cases)))
    (rw (worded-back (λ l. numbered_case_text l ++ 10 ∷ []) GoodNumbered Anything (rest_at numbered_case_at fits_numbered) numbered-rest (codes "case ") (omega arith) (λ _. tt) (number_from 1 cases) ys (cases-have 1 cases (omega arith) (omega arith) is) tt none)
    (rw order (ap (λ z. Some (z, ys)) (cases-back 1 cases))))

-- numbers of cases
pub record HasNumbers (most : ℕ) (ns : List ℕ) : Type 0 where
  pub some : 1 ≤ length ns
  pub each : Each (λ n. (1 ≤ n) × (n ≤ greatest)) ns
  pub upto : are_upto most ns ≡ true

abbrev pub EndsNumbers : List ℕ → Type 0
EndsNumbers ys = (digits ys ≡ 0) × (byte_at 59 ys ≡ None)

abbrev pub numbered_point_text : NumberedPoint → List ℕ
numbered_point_text p = place_text p.0 p.1 ++ 32 ∷ joined 59 decimal p.2

module _ (most : ℕ) where
  numbers-is : (ns xs ys : List ℕ) → numbers_at most xs ≡ Some (ns, ys) → (xs ≡ joined 59 decimal ns ++ ys) × HasNumbers most ns
  unfolding numbers_at
  numbers-is ns xs ys h =
      let w = then_some (list_at (counted_at greatest) 59 xs) (fit (are_upto most)) (ns, ys) h in
      let t = fit-is (are_upto most) w.0 (ns, ys) w.2 in
      let r = list-is decimal (λ n. (1 ≤ n) × (n ≤ greatest)) (λ zs. digits zs ≡ 0) (counted_at greatest) case-number-format 59 ns xs ys (w.1 ∙ ap (λ z. Some z) t.0) in
      let some : 1 ≤ length ns = rw r.2 (omega arith) in (
        r.3 ∙ sym (append_assoc (decimal r.0) (more 59 decimal r.1) ys) ∙ ap (λ z. joined 59 decimal z ++ ys) (sym r.2),
        record { some = some; each = r.4; upto = t.1 },
      )

  numbers-back : (ns ys : List ℕ) → HasNumbers most ns → EndsNumbers ys → numbers_at most (joined 59 decimal ns ++ ys) ≡ Some (ns, ys)
  unfolding numbers_at
  numbers-back [] ys is ends = let k = is.some in absurd (omega arith)
  numbers-back (n ∷ ns) ys is ends =
      rw (append_assoc (decimal n) (more 59 decimal ns) ys)
      (rw (list-back decimal (λ n. (1 ≤ n) × (n ≤ greatest)) (λ zs. digits zs ≡ 0) (counted_at greatest) case-number-format 59 (λ _. refl) n ns ys is.each.0 is.each.1 ends.0 ends.1)
      (rw is.upto refl))

  pub numbers-format : Format (joined 59 decimal) (HasNumbers most) EndsNumbers (numbers_at most)
  numbers-format = record { sound = numbers-is; complete = numbers-back }

  -- points with the numbers of their cases
  abbrev pub HasNumberedPoint : NumberedPoint → Type 0
  HasNumberedPoint p = (1 ≤ p.0) × (p.0 ≤ 65535) × (p.1 ≤ 255) × HasNumbers most p.2

  numbered-point-is : (p : NumberedPoint) (xs ys : List ℕ) → numbered_point_at most xs ≡ Some (p, ys) → (xs ≡ numbered_point_text p ++ ys) × HasNumberedPoint p
  unfolding numbered_point_at
  numbered-point-is p xs ys h =
      let l = then_some (place_at xs) _ (p, ys) h in
      let s = then_some (byte_at 32 l.0.1) _ (p, ys) l.2 in
      let n = with_some (numbered_point_of l.0.0) (numbers_at most s.0.1) p ys s.2 in
      let a = place-is l.0.0 xs l.0.1 l.1 in
      let b = numbers-is n.0 s.0.1 ys n.1 in
      let P : NumberedPoint → Type 0 = λ z. (xs ≡ numbered_point_text z ++ ys) × HasNumberedPoint z in
      subst P (sym n.2) (
        a.0 ∙ ap (λ z. place_text l.0.0.0 l.0.0.1 ++ z) ((byte-is 32 s.0.0 l.0.1 s.0.1 s.1).0 ∙ ap (λ z. 32 ∷ z) b.0) ∙ sym (append_assoc (place_text l.0.0.0 l.0.0.1) (32 ∷ joined 59 decimal n.0) ys),
        (a.1, a.2, a.3, b.1),
      )

  numbered-point-back : (p : NumberedPoint) (ys : List ℕ) → HasNumberedPoint p → EndsNumbers ys → numbered_point_at most (numbered_point_text p ++ ys) ≡ Some (p, ys)
  unfolding numbered_point_at
  numbered-point-back p ys (from, to, round, is) ends =
      rw (append_assoc (place_text p.0 p.1) (32 ∷ joined 59 decimal p.2) ys)
      (rw (place-back (p.0, p.1) (32 ∷ (joined 59 decimal p.2 ++ ys)) from to round refl) (rw (numbers-back p.2 ys is ends) refl))

  pub numbered-point-format : Format numbered_point_text HasNumberedPoint EndsNumbers (numbered_point_at most)
  numbered-point-format = record { sound = numbered-point-is; complete = numbered-point-back }

  abbrev pub GoodNumberedPoint : NumberedPoint → Type 0
  GoodNumberedPoint p = HasNumberedPoint p × (fits_numbered_point p ≡ true)

  pub numbered-point-rest : Format (λ p. numbered_point_text p ++ 10 ∷ []) GoodNumberedPoint Anything (rest_at (numbered_point_at most) fits_numbered_point)
  numbered-point-rest = rest-format numbered_point_text HasNumberedPoint EndsNumbers (numbered_point_at most) numbered-point-format fits_numbered_point (λ n. (refl, refl))
