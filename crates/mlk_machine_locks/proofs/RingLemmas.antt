-- Removing those that wait for none of the rest finds a ring if there is one.
use Rattle.std.proofs.Common.{◌≡◌, ◌↔◌, ℕ, zero, suc, ◌≤◌, Bool, true, List, [], ◌∷◌, length, refl, sym, ap, ◌∙◌, subst, arith, inl, inr}
use Rattle.std.specs.List.{list_any}
use Rattle.mlk_names.specs.Lists.{Among}
use Rattle.mlk_machine_locks.specs.Rings.{IsRing, HasRing, waiting, left_after, left, has_ring}
use Rattle.mlk_machine_locks.proofs.ListLemmas.{one_there, there, any_from, any_to, in_filter, into_filter, filter_shrinks}

module _ {X : Type 0} (waits : X → X → Bool) where
  stays : (n : ℕ) (xs : List X) → waiting waits xs ≡ xs → left_after waits n xs ≡ xs
  stays zero xs h = refl
  stays (suc n) xs h = ap (left_after waits n) h ∙ stays n xs h

  -- after as many rounds as there are members, one more round changes nothing
  settled : (n : ℕ) (xs : List X) → length xs ≤ n → waiting waits (left_after waits n xs) ≡ left_after waits n xs
  settled zero [] h = refl
  settled zero (x ∷ xs) h = absurd (omega arith)
  settled (suc n) xs h = elim (filter_shrinks (λ x. list_any (waits x) xs) xs) [
    | inl e ↦
        let i : left_after waits (suc n) xs ≡ xs = stays (suc n) xs e in
        ap (waiting waits) i ∙ e ∙ sym i
    | inr l ↦ settled n (waiting waits xs) (omega arith)
  ]

  pub left_within : (n : ℕ) (xs : List X) (x : X) → Among x (left_after waits n xs) → Among x xs
  left_within zero xs x a = a
  left_within (suc n) xs x a = (in_filter (λ x. list_any (waits x) xs) xs x (left_within n (waiting waits xs) x a)).0

  -- each that is left waits for one that is left
  pub left_each : (xs : List X) (x : X) → Among x (left waits xs) → (y : X) × Among y (left waits xs) × (waits x y ≡ true)
  left_each xs x a =
      let s : waiting waits (left waits xs) ≡ left waits xs = settled (length xs) xs (omega arith) in
      let P : List X → Type 0 = λ l. Among x l in
      let w = in_filter (λ z. list_any (waits z) (left waits xs)) (left waits xs) x (subst P (sym s) a) in
      any_from (waits x) (left waits xs) w.1

  -- no round removes a member of a ring
  ring_stays : (In : X → Type 0) → ((x : X) → In x → (y : X) × In y × (waits x y ≡ true)) → (n : ℕ) (xs : List X) → ((x : X) → In x → Among x xs) → (x : X) → In x → Among x (left_after waits n xs)
  ring_stays In each zero xs within x i = within x i
  ring_stays In each (suc n) xs within x i =
      ring_stays In each n (waiting waits xs)
      (λ y j.
      let e = each y j in
      into_filter (λ z. list_any (waits z) xs) xs y (within y j) (any_to (waits y) xs e.0 (within e.0 e.1) e.2))
      x i

  module _ (WaitsFor : X → X → Type 0) (tested : (x y : X) → (waits x y ≡ true) ↔ WaitsFor x y) where
    -- what is left is a ring, if anything is
    pub left_is_ring : (xs : List X) → has_ring waits xs ≡ true → IsRing WaitsFor xs (λ x. Among x (left waits xs))
    left_is_ring xs h =
        let f = one_there (left waits xs) h in
        record {
          first = f.0;
          is_in = f.1;
          within = λ x a. left_within (length xs) xs x a;
          each = λ x a. let e = left_each xs x a in (e.0, e.1, (tested x e.0).0 e.2);
        }

    pub ring_is_left : (xs : List X) (In : X → Type 0) → IsRing WaitsFor xs In → (x : X) → In x → Among x (left waits xs)
    ring_is_left xs In r =
        ring_stays In (λ x i. let e = r.each x i in (e.0, e.1, (tested x e.0).1 e.2)) (length xs) xs r.within

    pub ring_is_found : (xs : List X) (In : X → Type 0) → IsRing WaitsFor xs In → has_ring waits xs ≡ true
    ring_is_found xs In r = there (left waits xs) r.first (ring_is_left xs In r r.first r.is_in)

    pub found : (xs : List X) → (has_ring waits xs ≡ true) ↔ HasRing WaitsFor xs
    found xs = (λ h. (left waits xs, left_is_ring xs h), λ r. ring_is_found xs (λ x. Among x r.0) r.1)
