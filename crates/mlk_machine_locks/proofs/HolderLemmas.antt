-- The jobs that may hold a name, asked one after another; those that hold nothing are removed.
use Rattle.std.proofs.Common.{◌≡◌, ◌≢◌, ◌<◌, ◌+◌, ◌-◌, ◌==◌, ℕ, zero, suc, Bool, true, false, cond, Option, Some, None, List, [], ◌∷◌, length, take, set, get_or, refl, sym, ap, ◌∙◌, subst, arith, inl, inr}
use Rattle.std.specs.Prelude.{◌⊎◌, IfSome, is_some, if◌then◌else◌, swap_remove}
use Rattle.std.specs.List.{list_any, slice_get}
use Rattle.std.proofs.lemmas.Bool.{eqb-true, eqb-false, ne_eqb, or_cases}
use Rattle.mlk_names.specs.declared.lock_name.LockName.{LockName}
use Rattle.mlk_machine_locks.specs.Waiting.{View}
use Rattle.mlk_machine_locks.specs.Tables.{Spares, IsStale}
use Rattle.mlk_machine_locks.proofs.SearchLemmas.{some_at}

abbrev pub is_in : ℕ → List ℕ → Bool
is_in i places = list_any (λ p. i == p) places

pub if_some : {A : Type 0} (P : A → Type 0) (o : Option A) (x : A) → o ≡ Some x → IfSome o P → P x
if_some P o x e h = subst (λ (r : Option _). IfSome r P) e h

get_taken : (xs : List ℕ) (m n : ℕ) → n < m → slice_get (take m xs) n ≡ slice_get xs n
get_taken xs zero n l = absurd (omega (arith, l))
get_taken [] (suc m) n l = refl
get_taken (x ∷ xs) (suc m) zero l = refl
get_taken (x ∷ xs) (suc m) (suc n) l = get_taken xs m n (omega (arith, l))

get_before : (xs : List ℕ) (i n v : ℕ) → n < i → slice_get (set xs i v) n ≡ slice_get xs n
get_before [] i n v l = refl
get_before (x ∷ xs) zero n v l = absurd (omega (arith, l))
get_before (x ∷ xs) (suc i) zero v l = refl
get_before (x ∷ xs) (suc i) (suc n) v l = get_before xs i n v (omega (arith, l))

-- one is removed, and the last takes its index
pub taken_before : (old new : List ℕ) (i k n : ℕ) → i < length old → new ≡ swap_remove old i k → n < i
    → slice_get new n ≡ slice_get old n
taken_before old new i k n w e l =
    ap (λ (xs : List ℕ). slice_get xs n) e
    ∙ get_taken (set old i (get_or old (length old - 1) k)) (length old - 1) n (omega (arith, w, l))
    ∙ get_before old i n (get_or old (length old - 1) k) l

pub taken_less : (old new : List ℕ) (i : ℕ) (r : Option ℕ) → r ≡ slice_get old i → i < length old
    → length new + (if is_some r then 1 else 0) ≡ length old → length new + 1 ≡ length old
taken_less old new i None e w h = let z : None ≡ Some (some_at old i w).0 = e ∙ (some_at old i w).1 in cc
taken_less old new i (Some k) e w h = h

pub others_stay : (old new : List ℕ) (k i : ℕ) → (is_in i new ≡ cond (k == i) false (is_in i old))
    → is_in i old ≡ true → (k ≡ i → ⊥) → is_in i new ≡ true
others_stay old new k i e h o = e ∙ ap (λ b. cond b false (is_in i old)) (ne_eqb k i o) ∙ h

-- what is in a list is at an index of it
pub place_of_one : (places : List ℕ) (i : ℕ) → is_in i places ≡ true → (n : ℕ) × (slice_get places n ≡ Some i)
place_of_one [] i h = cc
place_of_one (p ∷ places) i h = elim (or_cases (i == p) (is_in i places) h) [
  | inl e ↦ (zero, ap Some (sym (eqb-true i p e)))
  | inr e ↦ let r = place_of_one places i e in (suc r.0, r.1)
]

module _ {X : Type 0} (seen : X → View) (jobs : List X) (key number : ℕ) (name : LockName) where
  -- those before this one were asked, and those that were there first are there, or hold nothing
  pub record Asked (first now : List ℕ) (index : ℕ) : Type 0 where
    pub before : (n i : ℕ) → n < index → slice_get now n ≡ Some i → Spares seen jobs number name i
    pub others : (i : ℕ) → is_in i first ≡ true
        → (is_in i now ≡ true) ⊎ (Spares seen jobs number name i × IsStale seen jobs key i)

  pub none_asked : (first : List ℕ) → Asked first first 0
  none_asked first = record { before = λ n i l h. absurd (omega (arith, l)); others = λ i h. inl h }

  pub one_asked : (first now : List ℕ) (index place : ℕ) → Asked first now index → slice_get now index ≡ Some place
      → Spares seen jobs number name place → Asked first now (index + 1)
  one_asked first now index place a e s = record {
    before = λ n i l h. elim (at_or_before n index l) [
      | inl less ↦ a.before n i less h
      | inr same ↦
          let g : Some place ≡ Some i = sym e ∙ ap (slice_get now) (sym same) ∙ h in
          let z : place ≡ i = cc in
          subst (Spares seen jobs number name) z s
    ];
    others = a.others;
  }
    where
      at_or_before : (n m : ℕ) → n < m + 1 → (n < m) ⊎ (n ≡ m)
      at_or_before zero zero l = inr refl
      at_or_before zero (suc m) l = inl (omega arith)
      at_or_before (suc n) zero l = absurd (omega (arith, l))
      at_or_before (suc n) (suc m) l = elim (at_or_before n m (omega (arith, l))) [
        | inl less ↦ inl (omega (arith, less))
        | inr same ↦ inr (ap suc same)
      ]

  pub one_gone : (first now later : List ℕ) (index place : ℕ) → Asked first now index → slice_get now index ≡ Some place
      → Spares seen jobs number name place → IsStale seen jobs key place
      → ((i : ℕ) → is_in i now ≡ true → slice_get now index ≢ Some i → is_in i later ≡ true)
      → ((n : ℕ) → n < index → slice_get later n ≡ slice_get now n) → Asked first later index
  one_gone first now later index place a e s t stay same = record {
    before = λ n i l h. a.before n i l (sym (same n l) ∙ h);
    others = λ i h. elim (a.others i h) [
      | inl there ↦ elim (one_or_other i) [
        | inl z ↦ inr (subst (Spares seen jobs number name) z s, subst (IsStale seen jobs key) z t)
        | inr o ↦ inl (stay i there (λ f. o (let g : Some place ≡ Some i = sym e ∙ f in cc)))
      ]
      | inr gone ↦ inr gone
    ];
  }
    where
      one_or_other : (i : ℕ) → (place ≡ i) ⊎ (place ≢ i)
      one_or_other i = by (place == i) refl
        where
          by : (b : Bool) → (place == i) ≡ b → (place ≡ i) ⊎ (place ≢ i)
          by true f = inl (eqb-true place i f)
          by false f = inr (eqb-false place i f)

  -- all were asked
  pub all_asked : (first now : List ℕ) (index : ℕ) → Asked first now index → slice_get now index ≡ None
      → (i : ℕ) → is_in i first ≡ true → Spares seen jobs number name i
  all_asked first now index a none i h = elim (a.others i h) [
    | inl there ↦
        let p = place_of_one now i there in
        a.before p.0 i (within now index p.0 i none p.1) p.1
    | inr gone ↦ gone.0
  ]
    where
      within : (xs : List ℕ) (m n i : ℕ) → slice_get xs m ≡ None → slice_get xs n ≡ Some i → n < m
      within [] m n i e f = absurd (cc)
      within (x ∷ xs) zero n i e f = absurd (cc)
      within (x ∷ xs) (suc m) zero i e f = omega arith
      within (x ∷ xs) (suc m) (suc n) i e f = omega (arith, within xs m n i e f)

  pub all_stay : (first now : List ℕ) (index : ℕ) → Asked first now index
      → (i : ℕ) → is_in i first ≡ true → (is_in i now ≡ true) ⊎ IsStale seen jobs key i
  all_stay first now index a i h = elim (a.others i h) [
    | inl there ↦ inl there
    | inr gone ↦ inr gone.1
  ]
