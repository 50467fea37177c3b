-- Cases are equal if all their parts are.
use Rattle.std.proofs.Common.{◌≡◌, List, Bool, refl, ap, ◌∙◌, rules}
use Rattle.std.specs.Prelude.{Decides}
use Rattle.std.specs.Cmp.Lexicographic.{pointwise}
use Rattle.std.proofs.lemmas.Bool.Decides.{Decides-and, Decides-like}
use Rattle.std.proofs.lemmas.Slice.Eq.{slice_eq-Decides, bytes_eq-Decides}
use Rattle.mlk_names.specs.declared.term.LockTerm.{LockTerm}
use Rattle.mlk_cert_parts.specs.declared.case.Test.{Test}
use Rattle.mlk_cert_parts.specs.declared.case.Case.{Case}
use Rattle.mlk_cert_parts.specs.declared.names.NameSet.{NameSet}
use Rattle.mlk_cert_parts.specs.declared.names.Own.{Own}
use Rattle.mlk_names.specs.contracts.term.LockTermPartialEq.TheImpl as term_eq
use Rattle.mlk_cert_parts.specs.contracts.names.OwnPartialEq.TheImpl as own_eq
use Rattle.mlk_cert_parts.specs.contracts.names.NameSetPartialEq.TheImpl as set_eq
use Rattle.mlk_cert_parts.specs.contracts.case.TestPartialEq.TheImpl as test_eq
use Rattle.mlk_cert_parts.specs.contracts.case.CasePartialEq.TheImpl as case_eq
use Rattle.mlk_cert_parts.specs.Reading.{case_of}

pub lists-equal : {A : Type 0} {E : A → A → Bool} → ((a b : A) → Decides (E a b) (a ≡ b)) → (xs ys : List A) → Decides (pointwise E xs ys) (xs ≡ ys)
lists-equal decides xs ys = slice_eq-Decides decides xs ys _ refl

pub test-equal : (a b : Test) → Decides (test_eq.eq-value.it a b) (a ≡ b)
test-equal a b = search rules

pub term-equal : (a b : LockTerm) → Decides (term_eq.eq-value.it a b) (a ≡ b)
term-equal a b = search (rules, slice_eq-Decides)

pub own-equal : (a b : Own) → Decides (own_eq.eq-value.it a b) (a ≡ b)
own-equal a b = search (rules, slice_eq-Decides)

pub set-equal : (a b : NameSet) → Decides (set_eq.eq-value.it a b) (a ≡ b)
set-equal a b = search (rules, slice_eq-Decides)

case-parts-equal : (a b : Case) → (a.test ≡ b.test) × ((a.saved ≡ b.saved) × ((a.held ≡ b.held) × ((a.own ≡ b.own) × (a.kept ≡ b.kept)))) → a ≡ b
case-parts-equal a b (t, (s, (h, (o, k)))) =
    ap (λ z. case_of z a.held a.own a.kept a.saved) t
    ∙ ap (λ z. case_of b.test a.held a.own a.kept z) s
    ∙ ap (λ z. case_of b.test z a.own a.kept b.saved) h
    ∙ ap (λ z. case_of b.test b.held z a.kept b.saved) o
    ∙ ap (λ z. case_of b.test b.held b.own z b.saved) k

pub case-equal : (a b : Case) → Decides (case_eq.eq-value.it a b) (a ≡ b)
case-equal a b =
    Decides-like _ (case-parts-equal a b) (λ e. (ap (λ z. z.test) e, (ap (λ z. z.saved) e, (ap (λ z. z.held) e, (ap (λ z. z.own) e, ap (λ z. z.kept) e)))))
    (Decides-and _ _ (test-equal a.test b.test)
    (Decides-and _ _ (lists-equal test-equal a.saved b.saved)
    (Decides-and _ _ (lists-equal term-equal a.held b.held)
    (Decides-and _ _ (lists-equal own-equal a.own b.own) (lists-equal bytes_eq-Decides a.kept b.kept)))))
