-- Tables of terms, and the terms with numbers.
use Rattle.std.proofs.Common.{◌≡◌, ◌<◌, ℕ, zero, suc, Bool, true, false, List, [], ◌∷◌, ◌++◌, Some, None, length, refl, sym, ap, subst, ◌∙◌, arith, append_assoc, append-nil, length-append}
use Rattle.std.specs.Prelude.{Option, ◌+◌, if◌then◌else◌, nat_lt, nat_le, slice_get, option_to_list, option_map}
use Rattle.std.specs.List.{IsDistinct, AllByRecursion, AllZip, insert}
use Rattle.std.proofs.lemmas.Option.{same_Some}
use Rattle.std.proofs.lemmas.List.{map-append}
use Rattle.mlk_names.specs.declared.term.LockTerm.{LockTerm}
use Rattle.mlk_names.specs.contracts.term.LockTermPartialEq.TheImpl as term_eq
use Rattle.mlk_cert_lexemes.specs.Lists.{Each, ascends}
use Rattle.mlk_cert_lexemes.specs.Kinds.{terms_upto}
use Rattle.mlk_cert_parts.proofs.EqualCases.{term-equal}
use Rattle.mlk_cert_parts.specs.TermOrder.{terms_before}
use Rattle.mlk_cert_terms.specs.declared.key.TermKey.{TermKey}
use Rattle.mlk_cert_terms.specs.Keys.{terms_in}
use Rattle.mlk_cert_terms.specs.Numbered.{EachOnce, Grows, terms_at, passing, AsOften, AreNumbers}
use Rattle.mlk_cert_terms.proofs.Placing.{put_number, passing-put, each-put, numbers-ascend}
use Rattle.mlk_cert_terms.proofs.TermTexts.{term_below, terms-ascend}

abbrev pub same_term : LockTerm → LockTerm → Bool
same_term = term_eq.eq-value.it

-- what a table has, it has when it grew
pub got-old : {A : Type 0} (old more : List A) (n : ℕ) → n < length old → slice_get (old ++ more) n ≡ slice_get old n
got-old [] more n h = absurd (omega (arith, h))
got-old (x ∷ old) more zero h = refl
got-old (x ∷ old) more (suc n) h = got-old old more n (omega (arith, h))

pub got-within : {A : Type 0} (items : List A) (n : ℕ) (a : A) → slice_get items n ≡ Some a → n < length items
got-within [] n a h = absurd (cc h)
got-within (x ∷ items) zero a h = omega arith
got-within (x ∷ items) (suc n) a h = let l = got-within items n a h in omega (arith, l)

pub got-there : {A : Type 0} (items : List A) (n : ℕ) → n < length items → (a : A) × (slice_get items n ≡ Some a)
got-there [] n h = absurd (omega (arith, h))
got-there (x ∷ items) zero h = (x, refl)
got-there (x ∷ items) (suc n) h = got-there items n (omega (arith, h))

pub within-grown : (old more : List LockTerm) (ns : List ℕ) → Each (λ n. n < length old) ns → Each (λ n. n < length (old ++ more)) ns
within-grown old more [] h = tt
within-grown old more (n ∷ ns) h = (let l = length-append old more in let k = h.0 in omega (arith, l, k), within-grown old more ns h.1)

pub terms-grown : (old more : List LockTerm) (ns : List ℕ) → Each (λ n. n < length old) ns → terms_at (old ++ more) ns ≡ terms_at old ns
terms-grown old more [] h = refl
terms-grown old more (n ∷ ns) h =
    ap (λ o. option_to_list o ++ terms_at (old ++ more) ns) (got-old old more n h.0) ∙ ap (λ z. option_to_list (slice_get old n) ++ z) (terms-grown old more ns h.1)

-- a test of terms, of the term with a number
abbrev pub test_of : (LockTerm → Bool) → Option LockTerm → Bool
test_of test None = false
test_of test (Some t) = test t

pub passing-at : (table : List LockTerm) (test : LockTerm → Bool) (ns : List ℕ) → passing test (terms_at table ns) ≡ passing (λ n. test_of test (slice_get table n)) ns
passing-at table test [] = refl
passing-at table test (n ∷ ns) = of (slice_get table n) (passing-at table test ns)
  where
    of : (o : Option LockTerm) → passing test (terms_at table ns) ≡ passing (λ n. test_of test (slice_get table n)) ns
        → passing test (option_to_list o ++ terms_at table ns) ≡ (if test_of test o then 1 else 0) + passing (λ n. test_of test (slice_get table n)) ns
    of None h = omega (arith, h)
    of (Some t) h = ap (λ k. (if test t then 1 else 0) + k) h

-- one more number is one more term
pub passing-numbered : (table : List LockTerm) (test : LockTerm → Bool) (ns : List ℕ) (n : ℕ) (t : LockTerm) → slice_get table n ≡ Some t
    → passing test (terms_at table (put_number ns n)) ≡ (if test t then 1 else 0) + passing test (terms_at table ns)
passing-numbered table test ns n t at =
    passing-at table test (put_number ns n) ∙ passing-put nat_lt nat_le n (λ m. test_of test (slice_get table m)) ns
    ∙ ap (λ o. (if test_of test o then 1 else 0) + passing (λ m. test_of test (slice_get table m)) ns) at
    ∙ ap (λ k. (if test t then 1 else 0) + k) (sym (passing-at table test ns))

-- the numbers are those of some terms, and these are left
abbrev pub Remain : List LockTerm → List ℕ → List LockTerm → List LockTerm → Type 0
Remain table ns left terms = (test : LockTerm → Bool) → passing test (terms_at table ns) + passing test left ≡ passing test terms

pub grows-none : (old new : List LockTerm) → new ≡ old → Grows old new
grows-none old new e = ([], e ∙ sym (append-nil old))

pub grows-through : (a b c : List LockTerm) → Grows a b → Grows b c → Grows a c
grows-through a b c f g = (f.0 ++ g.0, g.1 ∙ ap (λ z. z ++ g.0) f.1 ∙ append_assoc a f.0 g.0)

sum-step : (p q k l o w : ℕ) → p ≡ k + q → q + l ≡ w → l ≡ k + o → p + o ≡ w
sum-step p q k l o w e f g = omega (arith, e, f, g)

-- one more term has its number
numbered : (table more : List LockTerm) (ns : List ℕ) (n : ℕ) (t : LockTerm) (left others terms : List LockTerm)
    → slice_get (table ++ more) n ≡ Some t → left ≡ t ∷ others → AreNumbers table ns → Remain table ns left terms
    → AreNumbers (table ++ more) (put_number ns n) × Remain (table ++ more) (put_number ns n) others terms
numbered table more ns n t left others terms at split are remain = (
  (each-put nat_lt nat_le n (λ m. m < length (table ++ more)) ns (got-within (table ++ more) n t at) (within-grown table more ns are.0), numbers-ascend n ns are.1),
  λ test. sum-step _ _ (if test t then 1 else 0) _ _ _
      (passing-numbered (table ++ more) test ns n t at ∙ ap (λ z. (if test t then 1 else 0) + passing test z) (terms-grown table more ns are.0))
      (remain test) (ap (passing test) split),
)

pub numbers-step : (table new : List LockTerm) (ns next : List ℕ) (n : ℕ) (t : LockTerm) (left others terms : List LockTerm)
    → Grows table new → slice_get new n ≡ Some t → next ≡ put_number ns n → left ≡ t ∷ others → AreNumbers table ns → Remain table ns left terms
    → AreNumbers new next × Remain new next others terms
numbers-step table new ns next n t left others terms grown at is split are remain =
    let whole : List LockTerm = table ++ grown.0 in
    let P : List LockTerm → Type 0 = λ z. AreNumbers z (put_number ns n) × Remain z (put_number ns n) others terms in
    let Q : List ℕ → Type 0 = λ z. AreNumbers new z × Remain new z others terms in
    subst Q (sym is) (subst P (sym grown.1) (numbered table grown.0 ns n t left others terms (ap (λ z. slice_get z n) (sym grown.1) ∙ at) split are remain))

-- where no term is left
pub none-remain : (table : List LockTerm) (ns : List ℕ) (left terms : List LockTerm) → left ≡ [] → Remain table ns left terms → AsOften (terms_at table ns) terms
none-remain table ns left terms is remain test = plus-none (passing test (terms_at table ns)) (passing test left) (passing test terms) (ap (passing test) is) (remain test)
  where
    plus-none : (a b c : ℕ) → b ≡ 0 → a + b ≡ c → a ≡ c
    plus-none a b c e f = omega (arith, e, f)

-- keys

pub got-key : (keys : List TermKey) (n : ℕ) → slice_get (terms_in keys) n ≡ option_map (λ k. k.term) (slice_get keys n)
got-key [] n = refl
got-key (k ∷ keys) zero = refl
got-key (k ∷ keys) (suc n) = got-key keys n

pub key-stored : (keys : List TermKey) (n : ℕ) (t : LockTerm) (k : TermKey) → slice_get keys n ≡ Some k → same_term t k.term ≡ true → slice_get (terms_in keys) n ≡ Some t
key-stored keys n t k at e = got-key keys n ∙ ap (λ o. option_map (λ (k : TermKey). k.term) o) at ∙ ap (λ z. Some z) (sym ((term-equal t k.term).0 e))

pub grown-if : (b : Bool) (keys new : List TermKey) (k : TermKey) → new ≡ (if b then keys else keys ++ k ∷ []) → Grows (terms_in keys) (terms_in new)
grown-if true keys new k e = grows-none (terms_in keys) (terms_in new) (ap terms_in e)
grown-if false keys new k e = (k.term ∷ [], ap terms_in e ∙ map-append (λ (k : TermKey). k.term) keys (k ∷ []))

pub cloned-keys : (keys new : List TermKey) → AllZip (λ source clone. clone ≡ source) keys new → terms_in new ≡ terms_in keys
cloned-keys [] [] h = refl
cloned-keys [] (k ∷ new) h = absurd h
cloned-keys (k ∷ keys) [] h = absurd h
cloned-keys (k ∷ keys) (l ∷ new) h = ap (λ (z : TermKey). z.term ∷ terms_in new) h.0 ∙ ap (λ z. k.term ∷ z) (cloned-keys keys new h.1)

-- keys that are distinct are terms each once
absent : (k : TermKey) (keys : List TermKey) (n : ℕ) → AllByRecursion (λ l. same_term k.term l.term ≡ false) keys → slice_get (terms_in keys) n ≡ Some k.term → ⊥
absent k [] n all h = cc h
absent k (l ∷ keys) zero all h =
    let e : l.term ≡ k.term = same_Some l.term k.term h in
    let s : same_term k.term l.term ≡ true = (term-equal k.term l.term).1 (sym e) in
    let f : true ≡ false = sym s ∙ all.0 in
    cc f
absent k (l ∷ keys) (suc n) all h = absent k keys n all.1 h

pub each-once : (keys : List TermKey) → IsDistinct (λ (k l : TermKey). same_term k.term l.term) keys → EachOnce (terms_in keys)
unfolding IsDistinct
each-once [] d i j t h k = absurd (cc h)
each-once (x ∷ keys) d zero zero t h k = refl
each-once (x ∷ keys) d zero (suc j) t h k = absurd (absent x keys j d.0 (k ∙ sym h))
each-once (x ∷ keys) d (suc i) zero t h k = absurd (absent x keys i d.0 (h ∙ sym k))
each-once (x ∷ keys) d (suc i) (suc j) t h k = ap (λ n. suc n) (each-once keys d.1 i j t h k)

-- the terms of numbers

-- these are the terms of some numbers, and those of these numbers are left
abbrev pub Await : List LockTerm → List LockTerm → List ℕ → List ℕ → Type 0
Await table terms left ns = (test : LockTerm → Bool) → passing test terms + passing test (terms_at table left) ≡ passing test (terms_at table ns)

got-first : (table : List LockTerm) (n : ℕ) (others : List ℕ) (o : Option LockTerm) → slice_get table n ≡ o → terms_at table (n ∷ others) ≡ option_to_list o ++ terms_at table others
got-first table n others o e = ap (λ z. option_to_list z ++ terms_at table others) e

pub term-step : (table terms next : List LockTerm) (t : LockTerm) (n : ℕ) (left others ns : List ℕ) → slice_get table n ≡ Some t → next ≡ insert terms (terms_before terms t) t → left ≡ n ∷ others
    → ascends terms_upto terms ≡ true → Await table terms left ns → (ascends terms_upto next ≡ true) × Await table next others ns
term-step table terms next t n left others ns at is split up await = (
  ap (ascends terms_upto) is ∙ terms-ascend t terms up,
  λ test. sum-step _ _ (if test t then 1 else 0) _ _ _ (ap (passing test) is ∙ passing-put term_below terms_upto t test terms)
      (await test) (ap (λ z. passing test (terms_at table z)) split ∙ ap (passing test) (got-first table n others (Some t) at)),
)

pub none-step : (table terms : List LockTerm) (n : ℕ) (left others ns : List ℕ) → slice_get table n ≡ None → left ≡ n ∷ others → Await table terms left ns → Await table terms others ns
none-step table terms n left others ns at split await test =
    ap (λ z. passing test terms + passing test z) (sym (ap (terms_at table) split ∙ got-first table n others None at)) ∙ await test

pub none-await : (table terms : List LockTerm) (left ns : List ℕ) → left ≡ [] → Await table terms left ns → AsOften (terms_at table ns) terms
none-await table terms left ns is await test = plus-none (passing test terms) (passing test (terms_at table left)) (passing test (terms_at table ns)) (ap (λ z. passing test (terms_at table z)) is) (await test)
  where
    plus-none : (a b c : ℕ) → b ≡ 0 → a + b ≡ c → c ≡ a
    plus-none a b c e f = omega (arith, e, f)
