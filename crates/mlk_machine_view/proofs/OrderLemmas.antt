-- A list that ascends by a test, and keeps the order of items that tie, is the result of inserting its items one by one.
use Rattle.std.proofs.Common.{◌≡◌, ◌∙◌, ℕ, suc, ◌+◌, ◌<◌, Bool, true, false, cond, not, ◌&&◌, List, [], ◌∷◌, length, get_or, filter, refl, sym, ap, true≢false, inl, inr, arith, IsSortedBy, IsPermutation}
use Rattle.mlk_cert_lexemes.specs.Lists.{ascends}
use Rattle.std.specs.Cmp.{IsStrictWeakOrder}
use Rattle.std.specs.List.Sorted.{ties, IsStableBy}
use Rattle.std.proofs.lemmas.Bool.{cases_Bool}
use Rattle.std.proofs.lemmas.List.Sorted.{sorted_far, IsPermutation-refl, IsPermutation-trans, IsPermutation-cons, IsPermutation-append_left, IsPermutation-to_front}
use native.Mathlib.Numerals.{unary_clauses}

module _ {X : Type 0} (lt : X → X → Bool) where
  -- an item is inserted after those that are below it
  abbrev pub put : X → List X → List X
  put a [] = a ∷ []
  put a (b ∷ xs) = cond (lt b a) (b ∷ put a xs) (a ∷ b ∷ xs)

  abbrev pub put_all : List X → List X
  put_all [] = []
  put_all (a ∷ xs) = put a (put_all xs)

  -- none of them is below it
  abbrev Least : X → List X → Type 0
  Least x [] = Unit {0}
  Least x (y ∷ ys) = (lt y x ≡ false) × Least x ys

  abbrev Up : List X → Type 0
  Up [] = Unit {0}
  Up (x ∷ xs) = Least x xs × Up xs

module _ {X : Type 0} (lt : X → X → Bool) (o : IsStrictWeakOrder lt) where
  below_none : (x y : X) → lt x y ≡ true → lt x y ≡ false → ⊥
  below_none x y t f = true≢false (sym t ∙ f)

  not_itself : (x : X) → lt x x ≡ false
  not_itself x = elim (cases_Bool (lt x x)) [
    | inl e ↦ o.one_way x x e
    | inr e ↦ e
  ]

  -- what is above an item is above what ties with it or is above it
  above : (x y z : X) → lt x y ≡ true → lt z y ≡ false → lt x z ≡ true
  above x y z t f = elim (cases_Bool (lt x z)) [
    | inl e ↦ e
    | inr e ↦ absurd (below_none x y t (o.chain x z y e f))
  ]

  least_chain : (x y : X) (ys : List X) → lt y x ≡ false → Least lt y ys → Least lt x ys
  least_chain x y [] h l = tt
  least_chain x y (z ∷ ys) h (e, l) = (o.chain z y x e h, least_chain x y ys h l)

  put_least : (x a : X) (ys : List X) → Least lt x ys → lt a x ≡ false → Least lt x (put lt a ys)
  put_least x a [] l h = (h, tt)
  put_least x a (y ∷ ys) (e, l) h = elim (cases_Bool (lt y a)) [
    | inl t ↦ rw t (e, put_least x a ys l h)
    | inr f ↦ rw f (h, (e, l))
  ]

  put_up : (a : X) (ys : List X) → Up lt ys → Up lt (put lt a ys)
  put_up a [] u = (tt, tt)
  put_up a (y ∷ ys) (l, u) = elim (cases_Bool (lt y a)) [
    | inl t ↦ rw t (put_least y a ys l (o.one_way y a t), put_up a ys u)
    | inr f ↦ rw f ((f, least_chain a y ys f l), (l, u))
  ]

  pub all_up : (xs : List X) → Up lt (put_all lt xs)
  all_up [] = tt
  all_up (a ∷ xs) = put_up a (put_all lt xs) (all_up xs)

  pub all_ascend : (xs : List X) → Up lt xs → ascends (λ a b. not (lt b a)) xs ≡ true
  all_ascend [] u = refl
  all_ascend (a ∷ []) u = refl
  all_ascend (a ∷ b ∷ xs) ((e, l), u) = rw e (all_ascend (b ∷ xs) u)

  put_moves : (a : X) (xs : List X) → IsPermutation (a ∷ xs) (put lt a xs)
  put_moves a [] = IsPermutation-refl (a ∷ [])
  put_moves a (b ∷ xs) = elim (cases_Bool (lt b a)) [
    | inl e ↦
        let first = IsPermutation-append_left xs (a ∷ b ∷ []) (b ∷ a ∷ []) (IsPermutation-to_front (a ∷ []) b) in
        rw e (IsPermutation-trans (a ∷ b ∷ xs) (b ∷ a ∷ xs) (b ∷ put lt a xs) first
        (IsPermutation-cons b (a ∷ xs) (put lt a xs) (put_moves a xs)))
    | inr e ↦ rw e (IsPermutation-refl (a ∷ b ∷ xs))
  ]

  pub all_moves : (xs : List X) → IsPermutation xs (put_all lt xs)
  all_moves [] = IsPermutation-refl []
  all_moves (a ∷ xs) = IsPermutation-trans (a ∷ xs) (a ∷ put_all lt xs) (put lt a (put_all lt xs))
      (IsPermutation-cons a xs (put_all lt xs) (all_moves xs)) (put_moves a (put_all lt xs))

  -- two that tie with one are not below each other
  one_tie : (x a b : X) → ties lt x b ≡ true → lt b a ≡ true → ties lt x a ≡ false
  one_tie x a b t below = elim (cases_Bool (lt x a)) [
    | inl e ↦ rw e refl
    | inr e ↦ elim (cases_Bool (lt b x)) [
      | inl d ↦ absurd (not_both (lt x b) (lt b x) t d)
      | inr d ↦ absurd (below_none b a below (o.chain b x a d e))
    ]
  ]
    where
      not_both : (s r : Bool) → (not s && not r) ≡ true → r ≡ true → ⊥
      not_both true r h d = true≢false (sym h)
      not_both false true h d = true≢false (sym h)
      not_both false false h d = true≢false (sym d)

  put_ties : (x a : X) (ys : List X) → filter (ties lt x) (put lt a ys) ≡ filter (ties lt x) (a ∷ ys)
  put_ties x a [] = refl
  put_ties x a (y ∷ ys) = elim (cases_Bool (lt y a)) [
    | inr f ↦ rw f refl
    | inl t ↦ elim (cases_Bool (ties lt x y)) [
      | inl e ↦
          let d = one_tie x a y e t in
          let i = put_ties x a ys in
          rw (t, e, d) (ap (λ zs. y ∷ zs) (rw d at i))
      | inr e ↦
          let i = put_ties x a ys in
          elim (cases_Bool (ties lt x a)) [
            | inl d ↦ rw (t, e, d) (rw d at i)
            | inr d ↦ rw (t, e, d) (rw d at i)
          ]
    ]
  ]

  same_behind : (p : X → Bool) (a : X) (xs ys : List X) → filter p xs ≡ filter p ys → filter p (a ∷ xs) ≡ filter p (a ∷ ys)
  same_behind p a xs ys e = ap (λ zs. cond (p a) (a ∷ zs) zs) e

  all_ties : (x : X) (xs : List X) → filter (ties lt x) (put_all lt xs) ≡ filter (ties lt x) xs
  all_ties x [] = refl
  all_ties x (a ∷ xs) = put_ties x a (put_all lt xs) ∙ same_behind (ties lt x) a (put_all lt xs) xs (all_ties x xs)

  -- nothing ties with an item that is below all
  no_ties : (x y : X) (ys : List X) → lt x y ≡ true → Least lt y ys → filter (ties lt x) (y ∷ ys) ≡ []
  no_ties x y [] t l = rw t refl
  no_ties x y (z ∷ ys) t (e, l) = rw (t, above x y z t e) (none_left x y ys t l)
    where
      none_left : (x y : X) (ys : List X) → lt x y ≡ true → Least lt y ys → filter (ties lt x) ys ≡ []
      none_left x y [] t l = refl
      none_left x y (z ∷ ys) t (e, l) = rw (above x y z t e) (none_left x y ys t l)

  ties_itself : (x : X) → ties lt x x ≡ true
  ties_itself x = rw (not_itself x) refl

  -- of two lists that ascend and have the same ties, the first item of one is not below that of the other
  first_not_below : (y z : X) (ys zs : List X) → Least lt y ys
      → ((x : X) → filter (ties lt x) (y ∷ ys) ≡ filter (ties lt x) (z ∷ zs)) → lt z y ≡ false
  first_not_below y z ys zs l same = elim (cases_Bool (lt z y)) [
    | inr f ↦ f
    | inl t ↦ absurd (is_some (filter (ties lt z) zs) (sym (no_ties z y ys t l) ∙ same z ∙ first_tie z zs))
  ]
    where
      first_tie : (z : X) (zs : List X) → filter (ties lt z) (z ∷ zs) ≡ z ∷ filter (ties lt z) zs
      first_tie z zs = rw (ties_itself z) refl

      is_some : (zs : List X) → [] ≡ z ∷ zs → ⊥
      is_some zs e = cc

  behind : (x y : X) (ys zs : List X) → filter (ties lt x) (y ∷ ys) ≡ filter (ties lt x) (y ∷ zs)
      → filter (ties lt x) ys ≡ filter (ties lt x) zs
  behind x y ys zs h = elim (cases_Bool (ties lt x y)) [
    | inl e ↦ tail (rw e at h)
    | inr e ↦ rw e at h
  ]
    where
      tail : {vs ws : List X} {v : X} → v ∷ vs ≡ v ∷ ws → vs ≡ ws
      tail h = cc

  first : {y z : X} {ys zs : List X} → y ∷ ys ≡ z ∷ zs → y ≡ z
  first h = cc

  tie_first : (x y : X) (ys : List X) → ties lt x y ≡ true → filter (ties lt x) (y ∷ ys) ≡ y ∷ filter (ties lt x) ys
  tie_first x y ys e = rw e refl

  one_list : (ys zs : List X) → Up lt ys → Up lt zs
      → ((x : X) → filter (ties lt x) ys ≡ filter (ties lt x) zs) → ys ≡ zs
  one_list [] [] u v same = refl
  one_list [] (z ∷ zs) u v same = absurd (none z (filter (ties lt z) zs) (same z ∙ tie_first z z zs (ties_itself z)))
    where
      none : (z : X) (zs : List X) → [] ≡ z ∷ zs → ⊥
      none z zs e = cc
  one_list (y ∷ ys) [] u v same =
      absurd (none y (filter (ties lt y) ys) (sym (tie_first y y ys (ties_itself y)) ∙ same y))
    where
      none : (z : X) (zs : List X) → z ∷ zs ≡ [] → ⊥
      none z zs e = cc
  one_list (y ∷ ys) (z ∷ zs) (l, u) (m, v) same =
      let f = first_not_below y z ys zs l same in
      let g = first_not_below z y zs ys m (λ x. sym (same x)) in
      let tie : ties lt z y ≡ true = rw (f, g) refl in
      let e : y ≡ z = first (sym (tie_first z y ys tie) ∙ same z ∙ tie_first z z zs (ties_itself z)) in
      ap (λ w. w ∷ ys) e ∙ ap (λ ws. z ∷ ws) (one_list ys zs u v
      (λ x. behind x y ys zs (same x ∙ ap (λ w. filter (ties lt x) (w ∷ zs)) (sym e))))

  least_from : (x : X) (ys : List X) → ((k : ℕ) → k < length ys → lt (get_or ys k x) x ≡ false) → Least lt x ys
  least_from x [] h = tt
  least_from x (y ∷ ys) h = (h 0 (omega arith), least_from x ys (λ k b. h (suc k) (omega arith)))

  one_less : (x : X) (xs : List X) (k : ℕ) (d : X) → lt (get_or (x ∷ xs) (suc k + 1) d) (get_or (x ∷ xs) (suc k) d) ≡ false
      → lt (get_or xs (k + 1) d) (get_or xs k d) ≡ false
  one_less x xs k d h = let r = simp unary_clauses at h in simp unary_clauses r

  up_from : (xs : List X) → IsSortedBy lt xs → Up lt xs
  up_from [] s = tt
  up_from (x ∷ xs) s = (
    least_from x xs (λ k b. sorted_far lt o (x ∷ xs) s 0 (suc k) x (omega arith) (omega arith)),
    up_from xs (λ k d b h. one_less x xs k d (s (suc k) d (omega arith) (omega arith))),
  )

  pub sorted_is : (xs ys : List X) → IsSortedBy lt ys → IsStableBy lt xs ys → ys ≡ put_all lt xs
  sorted_is xs ys s stable = one_list ys (put_all lt xs) (up_from ys s) (all_up xs) (λ x. stable x ∙ sym (all_ties x xs))
