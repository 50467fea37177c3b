-- What tests on cases and states decide.
use Rattle.std.proofs.Common.{◌≡◌, ◌⊎◌, ℕ, arith, subst, Bool, true, false, ◌&&◌, ◌||◌, List, [], ◌∷◌, refl, ap, sym, ◌∙◌, inl, inr, ⊎_elim}
use Rattle.std.specs.Prelude.{Decides, Contains, bytes_eq, ◌==◌}
use Rattle.std.specs.List.{list_any, list_all}
use Rattle.std.proofs.lemmas.Bool.Decides.{Decides-and, Decides-or, Decides-like, Decides-eqb}
use Rattle.std.proofs.lemmas.Slice.Eq.{bytes_eq-Decides}
use Rattle.mlk_names.specs.declared.symbol.Sym.{Sym}
use Rattle.mlk_names.specs.declared.symbol.Sym.TheVariants.{Const, Local, Job, Unknown}
use Rattle.mlk_rules.proofs.Computing.{in_front, in_rest, in_list}
use Rattle.mlk_cert_parts.specs.declared.case.Test.{Test}
use Rattle.mlk_cert_parts.specs.declared.case.Test.TheVariants.{Any, Zero, One}
use Rattle.mlk_cert_parts.specs.declared.case.Case.{Case}
use Rattle.mlk_cert_parts.specs.declared.names.NameSet.{NameSet}
use Rattle.mlk_cert_parts.specs.declared.names.NameSet.TheVariants.{Only, AllBut}
use Rattle.mlk_cert_parts.specs.declared.names.Own.{Own}
use Rattle.mlk_cert_lexemes.specs.Lists.{Each, EachPair}
use Rattle.mlk_cert_parts.specs.Inclusion.{Covers, Included}
use Rattle.mlk_walk_state.specs.declared.state.State.{State}
use Rattle.mlk_walk_state.specs.Names.{is_among}
use Rattle.mlk_walk_state.specs.Terms.{same_term}
use Rattle.mlk_walk_state.specs.Cases.{same_test, says_no_more, pairwise, same_set, same_own, same_case, includes}
use Rattle.mlk_walk_state.specs.States.{same_sym, same_state}
use Rattle.mlk_walk_state.specs.Laws.{IncludesDecides, SameDecides}
use Rattle.mlk_walk_state.proofs.TermTests.{same_term_decides}

yes : {P : Type 0} → P → Decides true P
yes p = (λ e. p, λ h. refl)

no : {P : Type 0} → (P → ⊥) → Decides false P
no f = (λ e. absurd (cc), λ h. absurd (f h))

test_decides : (s t : Test) → Decides (same_test s t) (s ≡ t)
test_decides Any Any = yes refl
test_decides Any Zero = no (λ e. cc)
test_decides Any One = no (λ e. cc)
test_decides Zero Any = no (λ e. cc)
test_decides Zero Zero = yes refl
test_decides Zero One = no (λ e. cc)
test_decides One Any = no (λ e. cc)
test_decides One Zero = no (λ e. cc)
test_decides One One = yes refl

-- lists are equal if their items are
lists_decide : {A : Type 0} (same : A → A → Bool) → ((a b : A) → Decides (same a b) (a ≡ b)) → (xs ys : List A) → Decides (pairwise same xs ys) (xs ≡ ys)
lists_decide same each [] [] = yes refl
lists_decide same each [] (y ∷ ys) = no (λ e. cc)
lists_decide same each (x ∷ xs) [] = no (λ e. cc)
lists_decide {A} same each (x ∷ xs) (y ∷ ys) =
    Decides-like (same x y && pairwise same xs ys) (λ (h : (x ≡ y) × (xs ≡ ys)). let a = h.0 in let b = h.1 in cc) (λ (e : x ∷ xs ≡ y ∷ ys). (cc, cc))
    (Decides-and (same x y) (pairwise same xs ys) (each x y) (lists_decide same each xs ys))

pairs_decide : {A : Type 0} (is : A → A → Bool) (Is : A → A → Type 0) → ((a b : A) → Decides (is a b) (Is a b)) → (xs ys : List A) → Decides (pairwise is xs ys) (EachPair Is xs ys)
pairs_decide is Is each [] [] = yes tt
pairs_decide is Is each [] (y ∷ ys) = no (λ e. e)
pairs_decide is Is each (x ∷ xs) [] = no (λ e. e)
pairs_decide is Is each (x ∷ xs) (y ∷ ys) = Decides-and (is x y) (pairwise is xs ys) (each x y) (pairs_decide is Is each xs ys)

covers_decide : (s t : Test) → Decides (says_no_more s t) (Covers s t)
covers_decide s t = Decides-or (same_test t Any) (same_test s t) (test_decides t Any)
    (Decides-like (same_test s t) (λ (e : s ≡ t). sym e) (λ (e : t ≡ s). sym e) (test_decides s t))

turned : {A : Type 0} (b : Bool) (x y : A) → Decides b (x ≡ y) → Decides b (y ≡ x)
turned b x y d = Decides-like b (λ (e : x ≡ y). sym e) (λ (e : y ≡ x). sym e) d

set_decides : (n m : NameSet) → Decides (same_set n m) (n ≡ m)
set_decides (Only n) (Only m) = Decides-like (bytes_eq n m) (λ e. ap Only e) (λ e. cc) (bytes_eq-Decides n m)
set_decides (Only n) (AllBut ms) = no (λ e. cc)
set_decides (AllBut ns) (Only m) = no (λ e. cc)
set_decides (AllBut ns) (AllBut ms) = Decides-like (pairwise bytes_eq ns ms) (λ e. ap AllBut e) (λ e. cc) (lists_decide bytes_eq bytes_eq-Decides ns ms)

pub own_decides : (o p : Own) → Decides (same_own o p) (o ≡ p)
own_decides o p =
    Decides-like (same_own o p)
    (λ (h : (o.level ≡ p.level) × (o.names ≡ p.names)). ap (λ z. record o { level = z }) h.0 ∙ ap (λ z. record p { names = z }) h.1)
    (λ (e : o ≡ p). (ap (λ (z : Own). z.level) e, ap (λ (z : Own). z.names) e))
    (Decides-and (o.level == p.level) (same_set o.names p.names) (Decides-eqb o.level p.level) (set_decides o.names p.names))

among_decides : (names : List (List ℕ)) (name : List ℕ) → Decides (is_among names name) (Contains names name)
unfolding is_among
among_decides [] name = no (λ c. let l = c.1 in omega arith)
among_decides (n ∷ names) name =
    Decides-like (bytes_eq name n || list_any (bytes_eq name) names)
    (λ (h : (name ≡ n) ⊎ Contains names name). ⊎_elim (λ e. subst (Contains (n ∷ names)) (sym e) (in_front n names)) (λ c. in_rest n name names c) h)
    (λ (c : Contains (n ∷ names) name). ⊎_elim (λ e. inl (sym e)) (λ d. inr d) (in_list n name names c))
    (Decides-or (bytes_eq name n) (list_any (bytes_eq name) names) (bytes_eq-Decides name n) (among_decides names name))

all_among : (names others : List (List ℕ)) → Decides (list_all (is_among names) others) (Each (Contains names) others)
all_among names [] = yes tt
all_among names (n ∷ others) = Decides-and (is_among names n) (list_all (is_among names) others) (among_decides names n) (all_among names others)

case_parts : (c d : Case) → (c.test ≡ d.test) × ((c.held ≡ d.held) × ((c.own ≡ d.own) × ((c.kept ≡ d.kept) × (c.saved ≡ d.saved)))) → c ≡ d
case_parts c d (t, (h, (o, (k, s)))) =
    ap (λ z. record c { test = z }) t ∙ ap (λ z. record d { held = z; own = c.own; kept = c.kept; saved = c.saved }) h
    ∙ ap (λ z. record d { own = z; kept = c.kept; saved = c.saved }) o ∙ ap (λ z. record d { kept = z; saved = c.saved }) k ∙ ap (λ z. record d { saved = z }) s

same_case_decides : (c d : Case) → Decides (same_case c d) (c ≡ d)
unfolding same_case
same_case_decides c d =
    Decides-like
    (same_test c.test d.test && (pairwise same_term c.held d.held && (pairwise same_own c.own d.own
    && (pairwise bytes_eq c.kept d.kept && pairwise same_test c.saved d.saved))))
    (case_parts c d)
    (λ (e : c ≡ d). (ap (λ (z : Case). z.test) e, (ap (λ (z : Case). z.held) e, (ap (λ (z : Case). z.own) e, (ap (λ (z : Case). z.kept) e, ap (λ (z : Case). z.saved) e)))))
    (Decides-and _ _ (test_decides c.test d.test)
    (Decides-and _ _ (lists_decide same_term same_term_decides c.held d.held)
    (Decides-and _ _ (lists_decide same_own own_decides c.own d.own)
    (Decides-and _ _ (lists_decide bytes_eq bytes_eq-Decides c.kept d.kept) (lists_decide same_test test_decides c.saved d.saved)))))

sym_decides : (s t : Sym) → Decides (same_sym s t) (s ≡ t)
sym_decides (Const a) (Const b) = Decides-like (bytes_eq a b) (λ e. ap Const e) (λ e. cc) (bytes_eq-Decides a b)
sym_decides (Const a) (Local b) = no (λ e. cc)
sym_decides (Const a) Job = no (λ e. cc)
sym_decides (Const a) Unknown = no (λ e. cc)
sym_decides (Local a) (Const b) = no (λ e. cc)
sym_decides (Local a) (Local b) = Decides-like (bytes_eq a b) (λ e. ap Local e) (λ e. cc) (bytes_eq-Decides a b)
sym_decides (Local a) Job = no (λ e. cc)
sym_decides (Local a) Unknown = no (λ e. cc)
sym_decides Job (Const b) = no (λ e. cc)
sym_decides Job (Local b) = no (λ e. cc)
sym_decides Job Job = yes refl
sym_decides Job Unknown = no (λ e. cc)
sym_decides Unknown (Const b) = no (λ e. cc)
sym_decides Unknown (Local b) = no (λ e. cc)
sym_decides Unknown Job = no (λ e. cc)
sym_decides Unknown Unknown = yes refl

same_state_decides : (s t : State) → Decides (same_state s t) (s ≡ t)
unfolding same_state
same_state_decides s t =
    Decides-like (same_case s.case t.case && pairwise same_sym s.captured t.captured)
    (λ (h : (s.case ≡ t.case) × (s.captured ≡ t.captured)). ap (λ z. record s { case = z }) h.0 ∙ ap (λ z. record t { captured = z }) h.1)
    (λ (e : s ≡ t). (ap (λ (z : State). z.case) e, ap (λ (z : State). z.captured) e))
    (Decides-and _ _ (same_case_decides s.case t.case) (lists_decide same_sym sym_decides s.captured t.captured))

pub same_decides : SameDecides
same_decides = record { terms = same_term_decides; cases = same_case_decides; states = same_state_decides }

pub includes_decides : IncludesDecides
unfolding includes
includes_decides c d =
    Decides-like
    (says_no_more c.test d.test && (pairwise same_term c.held d.held && (pairwise same_own c.own d.own
    && (list_all (is_among c.kept) d.kept && pairwise says_no_more c.saved d.saved))))
    (λ (h : Covers c.test d.test × ((d.held ≡ c.held) × ((d.own ≡ c.own) × (Each (Contains c.kept) d.kept × EachPair Covers c.saved d.saved)))).
    record { test = h.0; held = h.1.0; own = h.1.1.0; kept = h.1.1.1.0; saved = h.1.1.1.1 })
    (λ (i : Included c d). (i.test, (i.held, (i.own, (i.kept, i.saved)))))
    (Decides-and _ _ (covers_decide c.test d.test)
    (Decides-and _ _ (turned _ c.held d.held (lists_decide same_term same_term_decides c.held d.held))
    (Decides-and _ _ (turned _ c.own d.own (lists_decide same_own own_decides c.own d.own))
    (Decides-and _ _ (all_among c.kept d.kept) (pairs_decide says_no_more Covers covers_decide c.saved d.saved)))))
