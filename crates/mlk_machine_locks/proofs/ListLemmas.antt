-- The elements of a list that pass a test, and the length of such a list.
use Rattle.std.proofs.Common.{◌≡◌, ◌<◌, ◌≤◌, Bool, true, cond, List, [], ◌∷◌, length, filter, map, refl, sym, ap, ◌∙◌, subst, arith, inl, inr}
use Rattle.std.specs.Prelude.{◌⊎◌, ◌||◌}
use Rattle.std.specs.List.{list_any}
use Rattle.std.proofs.lemmas.Bool.{cases_Bool, or_cases, or_left, or_right}
use Rattle.mlk_names.specs.Lists.{Among}
use Rattle.mlk_machine_locks.specs.Lists.{is_some_there}

pub one_there : {X : Type 0} (xs : List X) → is_some_there xs ≡ true → (x : X) × Among x xs
one_there [] h = cc
one_there (x ∷ xs) h = (x, inl refl)

pub there : {X : Type 0} (xs : List X) (x : X) → Among x xs → is_some_there xs ≡ true
there [] x a = absurd a
there (y ∷ xs) x a = refl

pub any_from : {X : Type 0} (t : X → Bool) (xs : List X) → list_any t xs ≡ true → (x : X) × Among x xs × (t x ≡ true)
any_from t [] h = cc
any_from t (x ∷ xs) h = elim (or_cases (t x) (list_any t xs) h) [
  | inl e ↦ (x, inl refl, e)
  | inr e ↦ let r = any_from t xs e in (r.0, inr r.1, r.2)
]

pub any_to : {X : Type 0} (t : X → Bool) (xs : List X) (x : X) → Among x xs → t x ≡ true → list_any t xs ≡ true
any_to t [] x a h = absurd a
any_to t (y ∷ xs) x (inl e) h = or_left (t y) (list_any t xs) (ap t (sym e) ∙ h)
any_to t (y ∷ xs) x (inr a) h = or_right (t y) (list_any t xs) (any_to t xs x a h)

pub in_filter : {X : Type 0} (t : X → Bool) (xs : List X) (x : X) → Among x (filter t xs) → Among x xs × (t x ≡ true)
in_filter t [] x a = absurd a
in_filter {X} t (y ∷ xs) x a =
    let P : Bool → Type 0 = λ b. Among x (cond b (y ∷ filter t xs) (filter t xs)) in
    elim (cases_Bool (t y)) [
      | inl e ↦ elim (subst P e a) [
        | inl i ↦ (inl i, ap t i ∙ e)
        | inr i ↦ let r = in_filter t xs x i in (inr r.0, r.1)
      ]
      | inr e ↦ let r = in_filter t xs x (subst P e a) in (inr r.0, r.1)
    ]

pub into_filter : {X : Type 0} (t : X → Bool) (xs : List X) (x : X) → Among x xs → t x ≡ true → Among x (filter t xs)
into_filter t [] x a h = absurd a
into_filter t (y ∷ xs) x (inl e) h = let i : t y ≡ true = ap t (sym e) ∙ h in rw i (inl e)
into_filter t (y ∷ xs) x (inr a) h = elim (cases_Bool (t y)) [
  | inl e ↦ rw e (inr (into_filter t xs x a h))
  | inr e ↦ rw e (into_filter t xs x a h)
]

pub filter_le : {X : Type 0} (t : X → Bool) (xs : List X) → length (filter t xs) ≤ length xs
filter_le t [] = omega arith
filter_le t (x ∷ xs) = elim (cases_Bool (t x)) [
  | inl e ↦ rw e (omega (arith, filter_le t xs))
  | inr e ↦ rw e (omega (arith, filter_le t xs))
]

-- all pass, or the list is shorter
pub filter_shrinks : {X : Type 0} (t : X → Bool) (xs : List X) → (filter t xs ≡ xs) ⊎ (length (filter t xs) < length xs)
filter_shrinks t [] = inl refl
filter_shrinks t (x ∷ xs) = elim (cases_Bool (t x)) [
  | inl e ↦ elim (filter_shrinks t xs) [
    | inl i ↦ inl (rw e (ap (λ l. x ∷ l) i))
    | inr i ↦ inr (rw e (omega (arith, i)))
  ]
  | inr e ↦ inr (rw e (omega (arith, filter_le t xs)))
]

pub any_of_map : {X Y : Type 0} (g : X → Y) (t : Y → Bool) (xs : List X) → list_any t (map g xs) ≡ list_any (λ x. t (g x)) xs
any_of_map g t [] = refl
any_of_map g t (x ∷ xs) = ap (λ b. t (g x) || b) (any_of_map g t xs)

pub filter_of_map : {X Y : Type 0} (g : X → Y) (s : X → Bool) (t : Y → Bool) (xs : List X)
    → ((x : X) → s x ≡ t (g x)) → map g (filter s xs) ≡ filter t (map g xs)
filter_of_map g s t [] same = refl
filter_of_map g s t (x ∷ xs) same = elim (cases_Bool (t (g x))) [
  | inl e ↦ rw (same x, e) (ap (λ l. g x ∷ l) (filter_of_map g s t xs same))
  | inr e ↦ rw (same x, e) (filter_of_map g s t xs same)
]
