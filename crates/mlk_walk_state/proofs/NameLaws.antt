-- If all names but some may change, each of them may.
use Rattle.std.proofs.Common.{◌≡◌, ℕ, Bool, true, false, not, List, [], ◌∷◌, refl, ap, ◌∙◌, ⊎_elim}
use Rattle.std.specs.Prelude.{◌||◌, bytes_eq}
use Rattle.std.specs.List.{list_any, list_all}
use Rattle.std.proofs.lemmas.Bool.{cases_Bool, and_parts}
use Rattle.std.proofs.lemmas.Slice.Eq.{bytes_eq-Decides}
use Rattle.mlk_cert_parts.specs.declared.names.NameSet.{NameSet}
use Rattle.mlk_cert_parts.specs.declared.names.NameSet.TheVariants.{Only, AllBut}
use Rattle.mlk_cert_parts.specs.declared.names.Own.{Own}
use Rattle.mlk_walk_state.specs.Names.{is_among, has, have, is_own, spares}
use Rattle.mlk_walk_state.specs.Laws.{AllButAllows}

-- if one test implies another, an item that passes the first passes the second
any_so : {A : Type 0} (f g : A → Bool) → ((a : A) → f a ≡ true → g a ≡ true) → (items : List A) → list_any f items ≡ true → list_any g items ≡ true
any_so f g so [] h = absurd (cc h)
any_so f g so (a ∷ items) h =
    ⊎_elim (λ (e : f a ≡ true). rw (so a e) refl)
    (λ (e : f a ≡ false). let k : list_any f items ≡ true = rw e at h in or_right (g a) (any_so f g so items k))
    (cases_Bool (f a))
  where
    or_right : (b : Bool) {c : Bool} → c ≡ true → b || c ≡ true
    or_right true h = refl
    or_right false h = h

among_too : (names others : List (List ℕ)) (name : List ℕ) → list_all (is_among names) others ≡ true → is_among others name ≡ true → is_among names name ≡ true
unfolding is_among
among_too names [] name a h = absurd (cc h)
among_too names (o ∷ others) name a h =
    let p = and_parts (is_among names o) (list_all (is_among names) others) a in
    ⊎_elim (λ (e : bytes_eq name o ≡ true). ap (is_among names) ((bytes_eq-Decides name o).0 e) ∙ p.0)
    (λ (e : bytes_eq name o ≡ false). let k : is_among others name ≡ true = rw e at h in among_too names others name p.1 k)
    (cases_Bool (bytes_eq name o))

spares_has : (names : List (List ℕ)) (name : List ℕ) → has (AllBut names) name ≡ true → (set : NameSet) → spares names set ≡ true → has set name ≡ true
unfolding spares
spares_has names name h (Only n) s = absurd (cc s)
spares_has names name h (AllBut others) s =
    ⊎_elim
    (λ (e : is_among others name ≡ true).
    let k : is_among names name ≡ true = among_too names others name s e in
    let l : not true ≡ true = rw k at h in absurd (cc l))
    (λ (e : is_among others name ≡ false). rw e refl)
    (cases_Bool (is_among others name))

pub all_but_allows : AllButAllows
unfolding have
all_but_allows own mods names name m h =
    ⊎_elim
    (λ (e : list_any (λ (o : Own). spares names o.names) own ≡ true).
    let k : is_own own name ≡ true = any_so (λ (o : Own). spares names o.names) (λ (o : Own). has o.names name) (λ o. spares_has names name h o.names) own e in
    rw k refl)
    (λ (e : list_any (λ (o : Own). spares names o.names) own ≡ false).
    let l : list_any (spares names) mods ≡ true = rw e at m in
    or_right (is_own own name) (any_so (spares names) (λ s. has s name) (spares_has names name h) mods l))
    (cases_Bool (list_any (λ (o : Own). spares names o.names) own))
  where
    or_right : (b : Bool) {c : Bool} → c ≡ true → b || c ≡ true
    or_right true h = refl
    or_right false h = h
