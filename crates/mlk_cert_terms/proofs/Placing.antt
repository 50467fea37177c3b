-- Items that are put at their place among others.
use Rattle.std.proofs.Common.{◌≡◌, ℕ, Bool, true, false, List, [], ◌∷◌, refl, sym, ap, subst, ◌∙◌, arith, ⊎_elim, one-add}
use Rattle.std.specs.Prelude.{◌+◌, if◌then◌else◌, nat_lt, nat_le}
use Rattle.std.specs.List.{insert, prefix_len}
use Rattle.std.proofs.lemmas.Bool.{cases_Bool, and_parts, and_from}
use Rattle.std.proofs.lemmas.Bool.Decides.{nat_tests}
use Rattle.mlk_cert_lexemes.specs.Lists.{Each, ascends}
use Rattle.mlk_cert_terms.specs.Numbered.{passing}
use Rattle.mlk_cert_terms.specs.Keys.{numbers_before}

module _ {A : Type 0} (before upto : A → A → Bool) (a : A) where
  -- the items with one more, before the first that is not before it
  abbrev pub put : List A → List A
  put items = insert items (prefix_len (λ u. before u a) items) a

  put-first : (u : A) (us : List A) → before u a ≡ false → put (u ∷ us) ≡ a ∷ u ∷ us
  put-first u us h = rw h refl

  put-later : (u : A) (us : List A) → before u a ≡ true → put (u ∷ us) ≡ u ∷ put us
  put-later u us h = rw (h, one-add) refl

  swapped : (k m n : ℕ) → k + (m + n) ≡ m + (k + n)
  swapped k m n = omega arith

  pub passing-put : (test : A → Bool) (items : List A) → passing test (put items) ≡ (if test a then 1 else 0) + passing test items
  passing-put test [] = refl
  passing-put test (u ∷ us) =
      ⊎_elim
      (λ (e : before u a ≡ true).
      ap (passing test) (put-later u us e) ∙ ap (λ n. (if test u then 1 else 0) + n) (passing-put test us)
      ∙ swapped (if test u then 1 else 0) (if test a then 1 else 0) (passing test us))
      (λ (e : before u a ≡ false). ap (passing test) (put-first u us e))
      (cases_Bool (before u a))

  pub each-put : (Is : A → Type 0) (items : List A) → Is a → Each Is items → Each Is (put items)
  each-put Is [] h k = (h, k)
  each-put Is (u ∷ us) h k =
      ⊎_elim (λ (e : before u a ≡ true). subst (Each Is) (sym (put-later u us e)) (k.0, each-put Is us h k.1))
      (λ (e : before u a ≡ false). subst (Each Is) (sym (put-first u us e)) (h, k))
      (cases_Bool (before u a))

  module _ (earlier : (u : A) → before u a ≡ true → upto u a ≡ true) (later : (u : A) → before u a ≡ false → upto a u ≡ true) where
    after-first : (u : A) (us : List A) → upto u a ≡ true → ascends upto (u ∷ us) ≡ true → ascends upto (put us) ≡ true → ascends upto (u ∷ put us) ≡ true
    after-first u [] h k o = and_from (upto u a) true h refl
    after-first u (v ∷ vs) h k o =
        let p = and_parts (upto u v) (ascends upto (v ∷ vs)) k in
        ⊎_elim
        (λ (e : before v a ≡ true).
        let q = put-later v vs e in
        ap (λ z. ascends upto (u ∷ z)) q ∙ and_from (upto u v) (ascends upto (v ∷ put vs)) p.0 (ap (ascends upto) (sym q) ∙ o))
        (λ (e : before v a ≡ false).
        let q = put-first v vs e in
        ap (λ z. ascends upto (u ∷ z)) q ∙ and_from (upto u a) (ascends upto (a ∷ v ∷ vs)) h (ap (ascends upto) (sym q) ∙ o))
        (cases_Bool (before v a))

    rest-ascends : (u : A) (us : List A) → ascends upto (u ∷ us) ≡ true → ascends upto us ≡ true
    rest-ascends u [] h = refl
    rest-ascends u (v ∷ vs) h = (and_parts (upto u v) (ascends upto (v ∷ vs)) h).1

    pub put-ascends : (items : List A) → ascends upto items ≡ true → ascends upto (put items) ≡ true
    put-ascends [] h = refl
    put-ascends (u ∷ us) h =
        ⊎_elim
        (λ (e : before u a ≡ true). ap (ascends upto) (put-later u us e) ∙ after-first u us (earlier u e) h (put-ascends us (rest-ascends u us h)))
        (λ (e : before u a ≡ false). ap (ascends upto) (put-first u us e) ∙ and_from (upto a u) (ascends upto (u ∷ us)) (later u e) h)
        (cases_Bool (before u a))

number-earlier : (n m : ℕ) → nat_lt m n ≡ true → nat_le m n ≡ true
number-earlier n m h = grind (arith, nat_tests)

number-later : (n m : ℕ) → nat_lt m n ≡ false → nat_le n m ≡ true
number-later n m h = grind (arith, nat_tests)

abbrev pub put_number : List ℕ → ℕ → List ℕ
put_number ns n = insert ns (numbers_before ns n) n

pub numbers-ascend : (n : ℕ) (ns : List ℕ) → ascends nat_le ns ≡ true → ascends nat_le (put_number ns n) ≡ true
numbers-ascend n ns = put-ascends nat_lt nat_le n (number-earlier n) (number-later n) ns
