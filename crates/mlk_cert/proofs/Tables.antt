-- Texts in plain byte order, and their numbers.
use Rattle.std.proofs.Common.{◌≡◌, ◌≤◌, ◌-◌, ℕ, zero, suc, List, [], ◌∷◌, length, map, Some, Bool, true, false, refl, sym, ap, ◌∙◌, arith, subst, inl, inr}
use Rattle.std.specs.Prelude.{◌&&◌, not, nat_lt, nat_le, bytes_eq, slice_get, option_to_list, ◌++◌}
use Rattle.std.proofs.lemmas.Bool.{cases_Bool, not-true}
use Rattle.std.proofs.lemmas.Bool.Decides.{nat_tests}
use Rattle.std.proofs.lemmas.Slice.Eq.{bytes_eq-Decides}
use Rattle.std.proofs.lemmas.Option.{same_Some}
use Rattle.mlk_cert_parts.specs.declared.case.Case.{Case}
use Rattle.mlk_cert_lexemes.specs.Lists.{Each, ascends, upto, below}
use Rattle.mlk_cert_lexemes.proofs.Formats.{both_true, both_back}
use Rattle.mlk_cert_lexemes.proofs.TextOrder.{upto-self, not-through}
use Rattle.mlk_cert_parts.specs.Texts.{case_text}
use Rattle.mlk_cert_parts.specs.Limits.{IsCase, cases_below}
use Rattle.mlk_cert_parts.specs.Reading.{case_at}
use Rattle.mlk_cert_parts.proofs.CaseFormats.{case-format}
use Rattle.mlk_cert.proofs.Goods.{case-has}
use Rattle.mlk_cert.specs.Second.{IsOneOf, number_of_text, numbers_of}
use Rattle.mlk_cert.specs.Numbered.{cases_by, are_upto}

-- plain byte order
pub below-self : (xs : List ℕ) → below xs xs ≡ false
below-self xs = ap not (upto-self xs)

pub below-through : (a b c : List ℕ) → below a b ≡ true → below b c ≡ true → below a c ≡ true
below-through a b c h k = ap not (not-through a b c (not-true _ h) (not-true _ k))

pub below-turned : (a b : List ℕ) → below a b ≡ true → below b a ≡ false
below-turned a b h = go (below b a) refl
  where
    go : (t : Bool) → below b a ≡ t → t ≡ false
    go true e = cc (sym (below-self a) ∙ below-through a b a h e)
    go false e = refl

-- the first of texts that ascend is below all others
pub below-all : (t : List ℕ) (texts : List (List ℕ)) (u : List ℕ) → ascends below (t ∷ texts) ≡ true → IsOneOf texts u → below t u ≡ true
below-all t [] u up among = absurd among
below-all t (x ∷ texts) u up among =
    let b = both_true (below t x) (ascends below (x ∷ texts)) up in
    elim among [
      | inl e ↦ subst (λ z. below t z ≡ true) e b.0
      | inr e ↦ below-through t x u b.0 (below-all x texts u b.1 e)
    ]

pub ascends-rest : (t : List ℕ) (texts : List (List ℕ)) → ascends below (t ∷ texts) ≡ true → ascends below texts ≡ true
ascends-rest t [] up = refl
ascends-rest t (x ∷ texts) up = (both_true (below t x) (ascends below (x ∷ texts)) up).1

pub bytes-same : (t : List ℕ) → bytes_eq t t ≡ true
bytes-same t = (bytes_eq-Decides t t).1 refl

pub below-apart : (t u : List ℕ) → below t u ≡ true → bytes_eq t u ≡ false
below-apart t u h = go (bytes_eq t u) refl
  where
    go : (b : Bool) → bytes_eq t u ≡ b → b ≡ false
    go true e =
        let same : t ≡ u = (bytes_eq-Decides t u).0 e in
        cc (sym (below-self u) ∙ ap (λ z. below z u) (sym same) ∙ h)
    go false e = refl

-- numbers are from 1 up to the length
pub number-within : (texts : List (List ℕ)) (t : List ℕ) → IsOneOf texts t → (1 ≤ number_of_text texts t) × (number_of_text texts t ≤ length texts)
number-within [] t among = absurd among
number-within (x ∷ texts) t among = elim (cases_Bool (bytes_eq x t)) [
  | inl e ↦ rw e (omega arith, omega arith)
  | inr e ↦ rw e (elim among [
    | inl same ↦ let k : bytes_eq x t ≡ true = (bytes_eq-Decides x t).1 same in cc (sym e ∙ k)
    | inr there ↦ let w = number-within texts t there in let low = w.0 in let high = w.1 in (omega arith, omega arith)
  ])
]

-- the text at its own number
pub number-own : (texts : List (List ℕ)) (t : List ℕ) → number_of_text (t ∷ texts) t ≡ 1
number-own texts t = rw (bytes-same t) refl

-- a case of a table is the one with its number
pub record IsAt (cases : List Case) (n : ℕ) (c : Case) : Type 0 where
  pub got : slice_get cases (n - 1) ≡ Some c
  pub number : number_of_text (map case_text cases) (case_text c) ≡ n
  pub among : IsOneOf (map case_text cases) (case_text c)
  pub is : IsCase c

pub case-at-number : (cases : List Case) (n : ℕ) → ascends below (map case_text cases) ≡ true → Each IsCase cases → 1 ≤ n → n ≤ length cases → (c : Case) × IsAt cases n c
case-at-number [] n up is from to = absurd (omega arith)
case-at-number (d ∷ cases) zero up is from to = absurd (omega arith)
case-at-number (d ∷ cases) (suc zero) up is from to = (d, record { got = refl; number = number-own (map case_text cases) (case_text d); among = inl refl; is = is.0 })
case-at-number (d ∷ cases) (suc (suc m)) up is from to =
    let rest = case-at-number cases (suc m) (ascends-rest (case_text d) (map case_text cases) up) is.1 (omega arith) (omega arith) in
    let apart = below-apart (case_text d) (case_text rest.0) (below-all (case_text d) (map case_text cases) (case_text rest.0) up rest.1.among) in
    let e : suc (suc m) - 1 ≡ suc (suc m - 1) = omega arith in
    (rest.0, record { got = ap (slice_get (d ∷ cases)) e ∙ rest.1.got; number = rw apart (ap (λ z. suc z) rest.1.number); among = inr rest.1.among; is = rest.1.is })

case-same : (c d : Case) → IsCase c → IsCase d → case_text c ≡ case_text d → c ≡ d
case-same c d is js same =
    let a = case-format.complete c [] (case-has c is).0 refl in
    let b = case-format.complete d [] (case-has d js).0 refl in
    ap (λ (r : Case × List ℕ). r.0) (same_Some (c, []) (d, []) (sym a ∙ ap (λ z. case_at (z ++ [])) same ∙ b))

pub case-by-number : (cases : List Case) (c : Case) → Each IsCase cases → IsCase c → IsOneOf (map case_text cases) (case_text c)
    → slice_get cases (number_of_text (map case_text cases) (case_text c) - 1) ≡ Some c
case-by-number [] c is js among = absurd among
case-by-number (d ∷ cases) c is js among = elim (cases_Bool (bytes_eq (case_text d) (case_text c))) [
  | inl e ↦ rw e (ap (λ z. Some z) (case-same d c is.0 js ((bytes_eq-Decides (case_text d) (case_text c)).0 e)))
  | inr e ↦ rw e (elim among [
    | inl same ↦ let k : bytes_eq (case_text d) (case_text c) ≡ true = (bytes_eq-Decides (case_text d) (case_text c)).1 same in cc (sym e ∙ k)
    | inr there ↦ next (number_of_text (map case_text cases) (case_text c)) (number-within (map case_text cases) (case_text c) there).0 (case-by-number cases c is.1 js there)
  ])
]
  where
    next : (n : ℕ) → 1 ≤ n → slice_get cases (n - 1) ≡ Some c → slice_get (d ∷ cases) (suc n - 1) ≡ Some c
    next n from h = let e : suc n - 1 ≡ suc (n - 1) = omega arith in ap (slice_get (d ∷ cases)) e ∙ h

-- numbers ascend like their texts
pub number-order : (texts : List (List ℕ)) (t u : List ℕ) → ascends below texts ≡ true → IsOneOf texts t → IsOneOf texts u → nat_lt (number_of_text texts t) (number_of_text texts u) ≡ below t u
number-order [] t u up a b = absurd a
number-order (x ∷ texts) t u up a b = elim (cases_Bool (bytes_eq x t)) [
  | inl e ↦ elim (cases_Bool (bytes_eq x u)) [
    | inl f ↦
        let s : x ≡ t = (bytes_eq-Decides x t).0 e in
        let r : x ≡ u = (bytes_eq-Decides x u).0 f in
        rw (e, f) (sym (ap (λ z. below t z) (sym r ∙ s) ∙ below-self t))
    | inr f ↦
        let s : x ≡ t = (bytes_eq-Decides x t).0 e in
        let there = other u f b in
        let low = (number-within texts u there).0 in
        rw (e, f) (first (number_of_text texts u) low ∙ sym (subst (λ z. below z u ≡ true) s (below-all x texts u up there)))
  ]
  | inr e ↦ elim (cases_Bool (bytes_eq x u)) [
    | inl f ↦
        let r : x ≡ u = (bytes_eq-Decides x u).0 f in
        let there = other t e a in
        let low = (number-within texts t there).0 in
        rw (e, f) (last (number_of_text texts t) low ∙ sym (below-turned u t (subst (λ z. below z t ≡ true) r (below-all x texts t up there))))
    | inr f ↦ rw (e, f) (both (number_of_text texts t) (number_of_text texts u) ∙ number-order texts t u (ascends-rest x texts up) (other t e a) (other u f b))
  ]
]
  where
    other : (v : List ℕ) → bytes_eq x v ≡ false → IsOneOf (x ∷ texts) v → IsOneOf texts v
    other v e (inl same) = let k : bytes_eq x v ≡ true = (bytes_eq-Decides x v).1 same in cc (sym e ∙ k)
    other v e (inr there) = there

    first : (n : ℕ) → 1 ≤ n → nat_lt 1 (suc n) ≡ true
    first n h = grind (arith, nat_tests)

    last : (n : ℕ) → 1 ≤ n → nat_lt (suc n) 1 ≡ false
    last n h = grind (arith, nat_tests)

    both : (n m : ℕ) → nat_lt (suc n) (suc m) ≡ nat_lt n m
    both n m = grind (arith, nat_tests)

pub numbers-order : (texts : List (List ℕ)) (cases : List Case) → ascends below texts ≡ true → Each (IsOneOf texts) (map case_text cases) → ascends nat_lt (numbers_of texts cases) ≡ ascends cases_below cases
numbers-order texts [] up is = refl
numbers-order texts (c ∷ []) up is = refl
numbers-order texts (c ∷ d ∷ cases) up is =
    ap (λ b. b && ascends nat_lt (numbers_of texts (d ∷ cases))) (number-order texts (case_text c) (case_text d) up is.0 is.1.0)
    ∙ ap (λ b. below (case_text c) (case_text d) && b) (numbers-order texts (d ∷ cases) up is.1)

-- the cases with numbers, and the numbers of cases
pub record AreBy (cases : List Case) (ns : List ℕ) (found : List Case) : Type 0 where
  pub numbers : numbers_of (map case_text cases) found ≡ ns
  pub among : Each (IsOneOf (map case_text cases)) (map case_text found)
  pub many : length found ≡ length ns
  pub each : Each IsCase found

pub numbers-by : (cases : List Case) (ns : List ℕ) → ascends below (map case_text cases) ≡ true → Each IsCase cases → Each (λ n. 1 ≤ n) ns → are_upto (length cases) ns ≡ true → AreBy cases ns (cases_by cases ns)
numbers-by cases [] up is from to = record { numbers = refl; among = tt; many = refl; each = tt }
numbers-by cases (n ∷ ns) up is from to =
    let t = both_true (nat_le n (length cases)) (are_upto (length cases) ns) to in
    let one = case-at-number cases n up is from.0 (upper n (length cases) t.0) in
    let rest = numbers-by cases ns up is from.1 t.1 in
    let here : cases_by cases (n ∷ ns) ≡ one.0 ∷ cases_by cases ns = ap (λ o. option_to_list o ++ cases_by cases ns) one.1.got in
    subst (λ z. AreBy cases (n ∷ ns) z) (sym here) (record {
      numbers = ap (λ m. m ∷ numbers_of (map case_text cases) (cases_by cases ns)) one.1.number ∙ ap (λ l. n ∷ l) rest.numbers;
      among = (one.1.among, rest.among);
      many = ap (λ m. suc m) rest.many;
      each = (one.1.is, rest.each);
    })
  where
    upper : (n most : ℕ) → nat_le n most ≡ true → n ≤ most
    upper n most h = grind (arith, nat_tests)

pub cases-by : (cases found : List Case) → Each IsCase cases → Each IsCase found → Each (IsOneOf (map case_text cases)) (map case_text found) → cases_by cases (numbers_of (map case_text cases) found) ≡ found
cases-by cases [] is js among = refl
cases-by cases (c ∷ found) is js among =
    ap (λ o. option_to_list o ++ cases_by cases (numbers_of (map case_text cases) found)) (case-by-number cases c is js.0 among.0)
    ∙ ap (λ l. c ∷ l) (cases-by cases found is js.1 among.1)

pub numbers-within : (texts : List (List ℕ)) (found : List Case) → Each (IsOneOf texts) (map case_text found) → Each (λ n. 1 ≤ n) (numbers_of texts found) × (are_upto (length texts) (numbers_of texts found) ≡ true)
numbers-within texts [] among = (tt, refl)
numbers-within texts (c ∷ found) among =
    let one = number-within texts (case_text c) among.0 in
    let rest = numbers-within texts found among.1 in
    ((one.0, rest.0), both_back _ _ (within _ _ one.1) rest.1)
  where
    within : (n most : ℕ) → n ≤ most → nat_le n most ≡ true
    within n most h = grind (arith, nat_tests)

-- what holds of all texts holds of one of them
pub of-among : (P : List ℕ → Type 0) (texts : List (List ℕ)) (t : List ℕ) → Each P texts → IsOneOf texts t → P t
of-among P [] t is among = absurd among
of-among P (x ∷ texts) t is among = elim among [ inl e ↦ subst P e is.0 | inr e ↦ of-among P texts t is.1 e ]

pub through : (us ts vs : List (List ℕ)) → Each (IsOneOf vs) us → Each (IsOneOf us) ts → Each (IsOneOf vs) ts
through us [] vs a b = tt
through us (t ∷ ts) vs a b = (of-among (IsOneOf vs) us t a b.0, through us ts vs a b.1)

-- two lists of texts that ascend, with the same texts, are equal
apart-rest : (t : List ℕ) (ts us : List (List ℕ)) → ((v : List ℕ) → IsOneOf ts v → t ≡ v → ⊥) → Each (IsOneOf (t ∷ us)) ts → Each (IsOneOf us) ts
apart-rest t [] us other is = tt
apart-rest t (v ∷ ts) us other is = (elim is.0 [ inl e ↦ absurd (other v (inl refl) e) | inr e ↦ e ], apart-rest t ts us (λ w a. other w (inr a)) is.1)

not-own : (t : List ℕ) (ts : List (List ℕ)) → ascends below (t ∷ ts) ≡ true → (v : List ℕ) → IsOneOf ts v → t ≡ v → ⊥
not-own t ts up v a same =
    let h = below-all t ts v up a in
    let k : true ≡ false = sym h ∙ ap (λ z. below z v) same ∙ below-self v in cc k

pub same-texts : (ts us : List (List ℕ)) → ascends below ts ≡ true → ascends below us ≡ true → Each (IsOneOf us) ts → Each (IsOneOf ts) us → ts ≡ us
same-texts [] [] a b p q = refl
same-texts [] (u ∷ us) a b p q = absurd q.0
same-texts (t ∷ ts) [] a b p q = absurd p.0
same-texts (t ∷ ts) (u ∷ us) a b p q =
    let first = heads p.0 q.0 in
    let ps : Each (IsOneOf (t ∷ us)) ts = subst (λ z. Each (IsOneOf (z ∷ us)) ts) (sym first) p.1 in
    let qs : Each (IsOneOf (u ∷ ts)) us = subst (λ z. Each (IsOneOf (z ∷ ts)) us) first q.1 in
    ap (λ z. z ∷ ts) first ∙ ap (λ z. u ∷ z) (same-texts ts us (ascends-rest t ts a) (ascends-rest u us b) (apart-rest t ts us (not-own t ts a) ps) (apart-rest u us ts (not-own u us b) qs))
  where
    heads : IsOneOf (u ∷ us) t → IsOneOf (t ∷ ts) u → t ≡ u
    heads (inl e) k = sym e
    heads (inr e) (inl f) = f
    heads (inr e) (inr f) =
        let h = below-all u us t b e in
        let k = below-all t ts u a f in
        let c : true ≡ false = sym h ∙ below-turned t u k in cc c
