-- Tables of terms, and cases with numbers in place of terms. This project's own choice.
use Rattle.std.specs.Prelude.{ℕ, ◌≡◌, ◌+◌, ◌<◌, nat_le, if◌then◌else◌, Bool, true, List}
use Rattle.std.specs.Prelude.{[], ◌∷◌, ◌++◌, Some, length, slice_get, option_to_list}
use Rattle.mlk_names.specs.declared.term.LockTerm.{LockTerm}
use Rattle.mlk_cert_lexemes.specs.Lists.{Each, ascends}
use Rattle.mlk_cert_lexemes.specs.Kinds.{terms_upto}
use Rattle.mlk_cert_parts.specs.declared.case.Case.{Case}
use Rattle.mlk_cert_terms.specs.declared.case.NumCase.{NumCase}

-- no term has two places
abbrev pub EachOnce : List LockTerm → Type 0
EachOnce table = (i j : ℕ) (t : LockTerm) → slice_get table i ≡ Some t → slice_get table j ≡ Some t → i ≡ j

-- the new table is the old one with some terms after it, or with none
abbrev pub Grows : List LockTerm → List LockTerm → Type 0
Grows old new = (more : List LockTerm) × (new ≡ old ++ more)

-- the terms with these numbers: a number is a place in the table, from 0 on
abbrev pub terms_at : List LockTerm → List ℕ → List LockTerm
terms_at table [] = []
terms_at table (n ∷ ns) = option_to_list (slice_get table n) ++ terms_at table ns

-- how many items pass the test
abbrev pub passing : {A : Type 0} → (A → Bool) → List A → ℕ
passing test [] = 0
passing test (a ∷ items) = (if test a then 1 else 0) + passing test items

-- the same items, each as often: whatever the test, as many of them pass it
abbrev pub AsOften : {A : Type 0} → List A → List A → Type 0
AsOften {A} items others = (test : A → Bool) → passing test items ≡ passing test others

-- the table has these numbers, and they ascend; a number may repeat
abbrev pub AreNumbers : List LockTerm → List ℕ → Type 0
AreNumbers table ns = Each (λ n. n < length table) ns × (ascends nat_le ns ≡ true)

-- these are numbers of the table, and those of these terms, each as often
abbrev pub AreNumbersOf : List LockTerm → List ℕ → List LockTerm → Type 0
AreNumbersOf table ns terms = AreNumbers table ns × AsOften (terms_at table ns) terms

-- these are the terms with these numbers, each as often, in the order of their texts
abbrev pub AreTermsOf : List LockTerm → List ℕ → List LockTerm → Type 0
AreTermsOf table ns terms = (ascends terms_upto terms ≡ true) × AsOften (terms_at table ns) terms

-- The two cases say the same, the first with numbers of the table in place of terms. Numbers ascend, and terms are in the
-- order of their texts.
pub record IsNumbered (table : List LockTerm) (n : NumCase) (c : Case) : Type 0 where
  pub test : n.test ≡ c.test
  pub saved : n.saved ≡ c.saved
  pub numbers : AreNumbers table n.held
  pub held : AreTermsOf table n.held c.held
  pub own : n.own ≡ c.own
  pub kept : n.kept ≡ c.kept
