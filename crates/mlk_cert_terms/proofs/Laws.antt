-- The laws of cases with numbers.
use Rattle.std.proofs.Common.{◌≡◌, ◌<◌, ℕ, zero, suc, Bool, true, false, List, [], ◌∷◌, Some, length, refl, sym, ap, subst, ◌∙◌, arith, ⊎_elim}
use Rattle.std.specs.Prelude.{◌+◌, ◌==◌, if◌then◌else◌, nat_le, slice_get, Decides}
use Rattle.std.proofs.lemmas.Bool.{cases_Bool, eqb-true, eq-eqb}
use Rattle.std.proofs.lemmas.Bool.Decides.{nat_tests}
use Rattle.std.proofs.lemmas.Option.{same_Some}
use Rattle.mlk_names.specs.declared.term.LockTerm.{LockTerm}
use Rattle.mlk_cert_lexemes.specs.Lists.{Each, ascends}
use Rattle.mlk_cert_lexemes.specs.Kinds.{IsTerm, terms_upto}
use Rattle.mlk_cert_parts.specs.declared.case.Case.{Case}
use Rattle.mlk_cert_parts.specs.Reading.{case_of}
use Rattle.mlk_cert_parts.proofs.EqualCases.{term-equal}
use Rattle.mlk_cert_terms.specs.Numbered.{EachOnce, terms_at, passing, AsOften, AreNumbers, AreTermsOf}
use Rattle.mlk_cert_terms.specs.Laws.{EqualNumbers, OneCase, GrownTables}
use Rattle.mlk_cert_terms.proofs.OneOrder.{one-order, each-often}
use Rattle.mlk_cert_terms.proofs.Tables.{same_term, got-there, within-grown, terms-grown, test_of, passing-at}
use Rattle.mlk_cert_terms.proofs.TermTexts.{terms-both, terms-through}

number-equal : (m n : ℕ) → Decides (m == n) (m ≡ n)
number-equal m n = (eqb-true m n, eq-eqb m n)

numbers-both : (m n : ℕ) → nat_le m n ≡ true → nat_le n m ≡ true → m ≡ n
numbers-both m n h k = grind (arith, nat_tests)

numbers-through : (k m n : ℕ) → nat_le k m ≡ true → nat_le m n ≡ true → nat_le k n ≡ true
numbers-through k m n g h = grind (arith, nat_tests)

-- the first place of a term
abbrev place : List LockTerm → LockTerm → ℕ
place [] t = 0
place (u ∷ table) t = if same_term t u then 0 else suc (place table t)

placed : (table : List LockTerm) (n : ℕ) (t : LockTerm) → slice_get table n ≡ Some t → slice_get table (place table t) ≡ Some t
placed [] n t h = absurd (cc h)
placed (u ∷ table) n t h =
    ⊎_elim (λ (e : same_term t u ≡ true). rw e (ap (λ z. Some z) (sym ((term-equal t u).0 e))))
    (λ (e : same_term t u ≡ false). rw e (later n h e (λ m. placed table m t)))
    (cases_Bool (same_term t u))
  where
    later : (n : ℕ) → slice_get (u ∷ table) n ≡ Some t → same_term t u ≡ false → ((m : ℕ) → slice_get table m ≡ Some t → slice_get table (place table t) ≡ Some t) → slice_get table (place table t) ≡ Some t
    later zero h e next =
        let s : u ≡ t = same_Some u t h in
        let f : true ≡ false = sym ((term-equal t u).1 (sym s)) ∙ e in
        absurd (cc f)
    later (suc n) h e next = next n h

-- whether a term has this number
abbrev has_number : List LockTerm → ℕ → LockTerm → Bool
has_number table k t = k == place table t

number-is : (table : List LockTerm) → EachOnce table → (k n : ℕ) (t : LockTerm) → slice_get table n ≡ Some t → test_of (has_number table k) (slice_get table n) ≡ (k == n)
number-is table once k n t at = ap (test_of (has_number table k)) at ∙ ap (λ z. k == z) (once (place table t) n t (placed table n t at) at)

numbers-are : (table : List LockTerm) → EachOnce table → (k : ℕ) (ns : List ℕ) → Each (λ n. n < length table) ns
    → passing (λ n. test_of (has_number table k) (slice_get table n)) ns ≡ passing (λ n. k == n) ns
numbers-are table once k [] h = refl
numbers-are table once k (n ∷ ns) h =
    let t = got-there table n h.0 in
    ap (λ b. (if b then 1 else 0) + passing (λ m. test_of (has_number table k) (slice_get table m)) ns) (number-is table once k n t.0 t.1)
    ∙ ap (λ z. (if k == n then 1 else 0) + z) (numbers-are table once k ns h.1)

-- how often a number is there is how often its term is
number-often : (table : List LockTerm) → EachOnce table → (ns : List ℕ) → AreNumbers table ns → (k : ℕ) → passing (λ n. k == n) ns ≡ passing (has_number table k) (terms_at table ns)
number-often table once ns are k = sym (passing-at table (has_number table k) ns ∙ numbers-are table once k ns are.0)

each-number : (ns : List ℕ) → Each (λ n. Unit {0}) ns
each-number [] = tt
each-number (n ∷ ns) = (tt, each-number ns)

same-numbers : (table : List LockTerm) → EachOnce table → (ns ms : List ℕ) → AreNumbers table ns → AreNumbers table ms → AsOften (terms_at table ns) (terms_at table ms) → ns ≡ ms
same-numbers table once ns ms are others often =
    one-order ◌==◌ number-equal nat_le (λ n. Unit {0}) (λ m n _ _. numbers-both m n) numbers-through ns ms (each-number ns) (each-number ms) are.1 others.1
    (λ k. number-often table once ns are k ∙ often (has_number table k) ∙ sym (number-often table once ms others k))

same-terms : (terms others : List LockTerm) → Each IsTerm terms → ascends terms_upto terms ≡ true → ascends terms_upto others ≡ true → AsOften terms others → terms ≡ others
same-terms terms others each up rise often =
    one-order same_term term-equal terms_upto IsTerm terms-both terms-through terms others each
    (each-often same_term term-equal IsTerm terms others (λ t. often (same_term t)) each) up rise (λ t. often (same_term t))

often-through : {A : Type 0} (xs ys zs : List A) → AsOften xs ys → AsOften xs zs → AsOften ys zs
often-through xs ys zs f g test = sym (f test) ∙ g test

of-numbers : (table : List LockTerm) (ns : List ℕ) (terms others : List LockTerm) → Each IsTerm terms → AreTermsOf table ns terms → AreTermsOf table ns others → terms ≡ others
of-numbers table ns terms others each are too = same-terms terms others each are.0 too.0 (often-through (terms_at table ns) terms others are.1 too.1)

pub equal-numbers : (table : List LockTerm) → EachOnce table → EqualNumbers table
equal-numbers table once n m c d each of too = (one, two)
  where
    one : c.held ≡ d.held → n.held ≡ m.held
    one e = same-numbers table once n.held m.held of.numbers too.numbers
        (λ test. of.held.1 test ∙ ap (passing test) e ∙ sym (too.held.1 test))

    two : n.held ≡ m.held → c.held ≡ d.held
    two e = of-numbers table n.held c.held d.held each of.held (subst (λ z. AreTermsOf table z d.held) (sym e) too.held)

parts-equal : (a b : Case) → a.test ≡ b.test → a.saved ≡ b.saved → a.held ≡ b.held → a.own ≡ b.own → a.kept ≡ b.kept → a ≡ b
parts-equal a b t s h o k =
    ap (λ z. case_of z a.held a.own a.kept a.saved) t
    ∙ ap (λ z. case_of b.test a.held a.own a.kept z) s
    ∙ ap (λ z. case_of b.test z a.own a.kept b.saved) h
    ∙ ap (λ z. case_of b.test b.held z a.kept b.saved) o
    ∙ ap (λ z. case_of b.test b.held b.own z b.saved) k

pub one-case : OneCase
one-case table n c d each of too =
    parts-equal c d (sym of.test ∙ too.test) (sym of.saved ∙ too.saved) (of-numbers table n.held c.held d.held each of.held too.held)
    (sym of.own ∙ too.own) (sym of.kept ∙ too.kept)

pub grown-tables : GrownTables
grown-tables old more n c of = record {
  test = of.test;
  saved = of.saved;
  numbers = (within-grown old more n.held of.numbers.0, of.numbers.1);
  held = (of.held.0, λ test. ap (passing test) (terms-grown old more n.held of.numbers.0) ∙ of.held.1 test);
  own = of.own;
  kept = of.kept;
}
