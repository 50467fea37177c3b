-- Items in order that are there as often are the same list.
use Rattle.std.proofs.Common.{◌≡◌, ◌<◌, ℕ, Bool, true, false, List, [], ◌∷◌, refl, sym, ap, subst, ◌∙◌, arith, ⊎_elim, inl, inr}
use Rattle.std.specs.Prelude.{◌+◌, ◌⊎◌, if◌then◌else◌, Decides}
use Rattle.std.proofs.lemmas.Bool.{cases_Bool, and_parts}
use Rattle.mlk_cert_lexemes.specs.Lists.{Each, ascends}
use Rattle.mlk_cert_terms.specs.Numbered.{passing}

module _ {A : Type 0} (eq : A → A → Bool) (decides : (a b : A) → Decides (eq a b) (a ≡ b)) where
  own-one : (a : A) → ◌≡◌ {A = ℕ} (if eq a a then 1 else 0) 1
  own-one a = rw ((decides a a).1 refl) refl

  -- an item of a list is there
  own-more : (a : A) (items : List A) → 0 < passing (eq a) (a ∷ items)
  own-more a items = let e = own-one a in omega (arith, e)

  later-more : (a b : A) (items : List A) → 0 < passing (eq a) items → 0 < passing (eq a) (b ∷ items)
  later-more a b items h = omega (arith, h)

  rest-has : (a b : A) (items : List A) → eq a b ≡ false → 0 < passing (eq a) (b ∷ items) → 0 < passing (eq a) items
  rest-has a b items e h = let g : 0 < (if false then 1 else 0) + passing (eq a) items = rw e at h in omega (arith, g)

  member : (Is : A → Type 0) (items : List A) (a : A) → Each Is items → 0 < passing (eq a) items → Is a
  member Is [] a each h = absurd (omega (arith, h))
  member Is (b ∷ items) a each h =
      ⊎_elim (λ (e : eq a b ≡ true). subst Is (sym ((decides a b).0 e)) each.0)
      (λ (e : eq a b ≡ false). member Is items a each.1 (rest-has a b items e h))
      (cases_Bool (eq a b))

  each-from : (Is : A → Type 0) (others : List A) → ((a : A) → 0 < passing (eq a) others → Is a) → Each Is others
  each-from Is [] f = tt
  each-from Is (b ∷ others) f = (f b (own-more b others), each-from Is others (λ a h. f a (later-more a b others h)))

  -- what each item of a list is, each item of another is that has the same items
  pub each-often : (Is : A → Type 0) (items others : List A) → ((a : A) → passing (eq a) items ≡ passing (eq a) others) → Each Is items → Each Is others
  each-often Is items others same each = each-from Is others (λ a h. member Is items a each (let s = same a in omega (arith, s, h)))

  module _ (upto : A → A → Bool) (Is : A → Type 0) (both : (a b : A) → Is a → Is b → upto a b ≡ true → upto b a ≡ true → a ≡ b)
      (through : (a b c : A) → upto a b ≡ true → upto b c ≡ true → upto a c ≡ true) where
    rest-ascends : (a : A) (items : List A) → ascends upto (a ∷ items) ≡ true → ascends upto items ≡ true
    rest-ascends a [] h = refl
    rest-ascends a (b ∷ items) h = (and_parts (upto a b) (ascends upto (b ∷ items)) h).1

    -- the first item is this one, or not above it
    least : (items : List A) (b a : A) → ascends upto (b ∷ items) ≡ true → 0 < passing (eq a) (b ∷ items) → (a ≡ b) ⊎ (upto b a ≡ true)
    least [] b a up h =
        ⊎_elim (λ (e : eq a b ≡ true). inl ((decides a b).0 e))
        (λ (e : eq a b ≡ false). let k = rest-has a b [] e h in absurd (omega (arith, k)))
        (cases_Bool (eq a b))
    least (c ∷ items) b a up h =
        ⊎_elim (λ (e : eq a b ≡ true). inl ((decides a b).0 e))
        (λ (e : eq a b ≡ false).
        let p = and_parts (upto b c) (ascends upto (c ∷ items)) up in
        inr (of p.0 (least items c a p.1 (rest-has a b (c ∷ items) e h))))
        (cases_Bool (eq a b))
      where
        of : upto b c ≡ true → (a ≡ c) ⊎ (upto c a ≡ true) → upto b a ≡ true
        of k (inl e) = rw e k
        of k (inr g) = through b c a k g

    cancelled : (a b : A) (items others : List A) → passing (eq a) (b ∷ items) ≡ passing (eq a) (b ∷ others) → passing (eq a) items ≡ passing (eq a) others
    cancelled a b items others h = omega (arith, h)

    pub one-order : (items others : List A) → Each Is items → Each Is others → ascends upto items ≡ true → ascends upto others ≡ true
        → ((a : A) → passing (eq a) items ≡ passing (eq a) others) → items ≡ others
    one-order [] [] each all up rise same = refl
    one-order [] (b ∷ others) each all up rise same = let h = own-more b others in let s = same b in absurd (omega (arith, h, s))
    one-order (a ∷ items) [] each all up rise same = let h = own-more a items in let s = same a in absurd (omega (arith, h, s))
    one-order (a ∷ items) (b ∷ others) each all up rise same =
        let first : a ≡ b = firsts (least others b a rise (let h = own-more a items in let s = same a in omega (arith, h, s)))
        (least items a b up (let h = own-more b others in let s = same b in omega (arith, h, s))) in
        let rest : items ≡ others = one-order items others each.1 all.1 (rest-ascends a items up) (rest-ascends b others rise)
        (λ c. cancelled c b items others (ap (λ z. passing (eq c) (z ∷ items)) (sym first) ∙ same c)) in
        ap (λ z. z ∷ items) first ∙ ap (λ z. b ∷ z) rest
      where
        firsts : (a ≡ b) ⊎ (upto b a ≡ true) → (b ≡ a) ⊎ (upto a b ≡ true) → a ≡ b
        firsts (inl e) k = e
        firsts (inr h) (inl e) = sym e
        firsts (inr h) (inr k) = both a b each.0 all.0 k h
