-- The tests of names decide the relations, and the held names that `in_conflict` finds exclude.
use Rattle.std.proofs.Common.{◌≡◌, ℕ, zero, suc, ◌+◌, ◌<◌, Bool, true, false, List, [], ◌∷◌, refl, sym, ap, ◌∙◌, subst, arith, inl, inr}
use Rattle.std.specs.Prelude.{◌⊎◌, ◌&&◌, ◌||◌, bytes_eq, Decides, if◌then◌else◌, nat_lt}
use Rattle.std.proofs.lemmas.Slice.Eq.{bytes_eq-Decides}
use Rattle.std.proofs.lemmas.Bool.{cases_Bool, and_parts, and_from, or_cases, or_left, or_right, lt-ltb, ltb-true}
use Rattle.mlk_names.specs.declared.lock_name.LockName.{LockName}
use Rattle.mlk_text.specs.declared.root.Root.{Root}
use Rattle.mlk_text.specs.declared.root.Root.TheVariants.{Global, Local}
use Rattle.mlk_names.specs.Lists.{Begins}
use Rattle.mlk_names.specs.LockNames.{IsAbove, Conflict}
use Rattle.mlk_names.proofs.ListLemmas.{begins_none, begins_past, begins_head, begins_tail, begins_cons}
use Rattle.mlk_machine_locks.specs.NameTests.{same_root, are_first, is_above, in_conflict, same_name}
use Rattle.mlk_machine_locks.specs.Counts.{Counts, count_of, excludes}
use Rattle.mlk_machine_locks.specs.Laws.{NamesTested, ExcludesHeld}

same_root_is : (a b : Root) → same_root a b ≡ true → a ≡ b
same_root_is (Global a) (Global b) h = ap Global ((bytes_eq-Decides a b).0 h)
same_root_is (Global a) (Local b) h = cc
same_root_is (Local a) (Global b) h = cc
same_root_is (Local a) (Local b) h = ap Local ((bytes_eq-Decides a b).0 h)

same_root_self : (a : Root) → same_root a a ≡ true
same_root_self (Global a) = (bytes_eq-Decides a a).1 refl
same_root_self (Local a) = (bytes_eq-Decides a a).1 refl

first_is : (xs ys : List (List ℕ)) → are_first xs ys ≡ true → Begins xs ys
first_is [] ys h = begins_none ys
first_is (x ∷ xs) [] h = cc
first_is (x ∷ xs) (y ∷ ys) h =
    let p = and_parts (bytes_eq x y) (are_first xs ys) h in
    begins_cons x y xs ys ((bytes_eq-Decides x y).0 p.0) (first_is xs ys p.1)

pub first_if : (xs ys : List (List ℕ)) → Begins xs ys → are_first xs ys ≡ true
first_if [] ys b = refl
first_if (x ∷ xs) [] b = absurd (begins_past x xs b)
first_if (x ∷ xs) (y ∷ ys) b =
    and_from (bytes_eq x y) (are_first xs ys) ((bytes_eq-Decides x y).1 (begins_head x y xs ys b)) (first_if xs ys (begins_tail x y xs ys b))

pub above_is : (m n : LockName) → is_above m n ≡ true → IsAbove m n
unfolding is_above
above_is m n h =
    let p = and_parts (same_root m.root n.root) (are_first m.subs n.subs) h in
    record { root = same_root_is m.root n.root p.0; subs = first_is m.subs n.subs p.1 }

pub above_if : (m n : LockName) → IsAbove m n → is_above m n ≡ true
unfolding is_above
above_if m n h =
    let e : same_root m.root n.root ≡ true = rw h.root (same_root_self n.root) in
    and_from (same_root m.root n.root) (are_first m.subs n.subs) e (first_if m.subs n.subs h.subs)

pub conflict_is : (m n : LockName) → in_conflict m n ≡ true → Conflict m n
unfolding in_conflict
conflict_is m n h = elim (or_cases (is_above m n) (is_above n m) h) [
  | inl e ↦ inl (above_is m n e)
  | inr e ↦ inr (above_is n m e)
]

pub conflict_if : (m n : LockName) → Conflict m n → in_conflict m n ≡ true
unfolding in_conflict
conflict_if m n (inl h) = or_left (is_above m n) (is_above n m) (above_if m n h)
conflict_if m n (inr h) = or_right (is_above m n) (is_above n m) (above_if n m h)

first_both : (xs ys : List (List ℕ)) → are_first xs ys ≡ true → are_first ys xs ≡ true → xs ≡ ys
first_both [] [] h k = refl
first_both [] (y ∷ ys) h k = cc
first_both (x ∷ xs) [] h k = cc
first_both (x ∷ xs) (y ∷ ys) h k =
    let a = and_parts (bytes_eq x y) (are_first xs ys) h in
    let b = and_parts (bytes_eq y x) (are_first ys xs) k in
    let e : x ≡ y = (bytes_eq-Decides x y).0 a.0 in
    let f = first_both xs ys a.1 b.1 in cc

first_self : (xs : List (List ℕ)) → are_first xs xs ≡ true
first_self [] = refl
first_self (x ∷ xs) = and_from (bytes_eq x x) (are_first xs xs) ((bytes_eq-Decides x x).1 refl) (first_self xs)

-- two lists that are equal up to the end of the shorter one
pub agree_none : (ys : List (List ℕ)) → true ≡ (are_first [] ys || are_first ys [])
agree_none ys = refl

pub agree_past : (x : List ℕ) (xs : List (List ℕ)) → true ≡ (are_first (x ∷ xs) [] || are_first [] (x ∷ xs))
agree_past x xs = refl

turned : (x y : List ℕ) → bytes_eq x y ≡ bytes_eq y x
turned x y = elim (cases_Bool (bytes_eq x y)) [
  | inl e ↦ e ∙ sym ((bytes_eq-Decides y x).1 (sym ((bytes_eq-Decides x y).0 e)))
  | inr e ↦ elim (cases_Bool (bytes_eq y x)) [
    | inl f ↦ absurd (let g : false ≡ true = sym e ∙ (bytes_eq-Decides x y).1 (sym ((bytes_eq-Decides y x).0 f)) in cc)
    | inr f ↦ e ∙ sym f
  ]
]

pub agree_more : (x y : List ℕ) (xs ys : List (List ℕ)) → bytes_eq x y ≡ true
    → (are_first xs ys || are_first ys xs) ≡ (are_first (x ∷ xs) (y ∷ ys) || are_first (y ∷ ys) (x ∷ xs))
agree_more x y xs ys e = rw (e, sym (turned x y) ∙ e) refl

pub agree_not : (x y : List ℕ) (xs ys : List (List ℕ)) → bytes_eq x y ≡ false
    → false ≡ (are_first (x ∷ xs) (y ∷ ys) || are_first (y ∷ ys) (x ∷ xs))
agree_not x y xs ys e = rw (e, sym (turned x y) ∙ e) refl

same_root_turned : (a b : Root) → same_root a b ≡ same_root b a
same_root_turned (Global a) (Global b) = turned a b
same_root_turned (Global a) (Local b) = refl
same_root_turned (Local a) (Global b) = refl
same_root_turned (Local a) (Local b) = turned a b

-- a conflict, with the subscripts first
pub conflict_so : (m n : LockName)
    → ((are_first m.subs n.subs || are_first n.subs m.subs) && same_root m.root n.root) ≡ in_conflict m n
unfolding in_conflict is_above
conflict_so m n =
    ap (λ b. b) (turned_around (same_root m.root n.root) (are_first m.subs n.subs) (are_first n.subs m.subs))
    ∙ ap (λ b. (same_root m.root n.root && are_first m.subs n.subs) || (b && are_first n.subs m.subs))
    (same_root_turned m.root n.root)
  where
    turned_around : (r a b : Bool) → ((a || b) && r) ≡ ((r && a) || (r && b))
    turned_around true true b = refl
    turned_around true false true = refl
    turned_around true false false = refl
    turned_around false true b = refl
    turned_around false false true = refl
    turned_around false false false = refl

-- the same, in the order of the tests: subscripts first, and if they agree the roots
pub conflict_then : (a b : Bool) (m n : LockName) (xs ys : List (List ℕ)) → xs ≡ m.subs → ys ≡ n.subs
    → a ≡ (are_first xs ys || are_first ys xs) → a ≡ true → b ≡ same_root m.root n.root → b ≡ in_conflict m n
conflict_then a b m n xs ys e f h t r =
    let P : List (List ℕ) → List (List ℕ) → Type 0 = λ us vs. a ≡ (are_first us vs || are_first vs us) in
    let g : P m.subs n.subs = subst (λ us. P us n.subs) e (subst (P xs) f h) in
    r ∙ ap (λ c. c && same_root m.root n.root) (sym t ∙ g) ∙ conflict_so m n

pub conflict_else : (a : Bool) (m n : LockName) (xs ys : List (List ℕ)) → xs ≡ m.subs → ys ≡ n.subs
    → a ≡ (are_first xs ys || are_first ys xs) → a ≡ false → a ≡ in_conflict m n
conflict_else a m n xs ys e f h t =
    let P : List (List ℕ) → List (List ℕ) → Type 0 = λ us vs. a ≡ (are_first us vs || are_first vs us) in
    let g : P m.subs n.subs = subst (λ us. P us n.subs) e (subst (P xs) f h) in
    t ∙ ap (λ c. c && same_root m.root n.root) (sym t ∙ g) ∙ conflict_so m n

pub root_tested : (b : Bool) (m n : Root) → Decides b (m ≡ n) → b ≡ same_root m n
root_tested true m n h = let e : m ≡ n = h.0 refl in sym (rw e (same_root_self n))
root_tested false m n h = elim (cases_Bool (same_root m n)) [
  | inl e ↦ absurd (let g : false ≡ true = h.1 (same_root_is m n e) in cc)
  | inr e ↦ sym e
]

pub same_self : (n : LockName) → same_name n n ≡ true
unfolding same_name is_above
same_self n =
    let e = and_from (same_root n.root n.root) (are_first n.subs n.subs) (same_root_self n.root) (first_self n.subs) in
    and_from _ _ e e

pub same_is : (m n : LockName) → same_name m n ≡ true → m ≡ n
unfolding same_name is_above
same_is m n h =
    let p = and_parts (is_above m n) (is_above n m) h in
    let q = and_parts (same_root m.root n.root) (are_first m.subs n.subs) p.0 in
    let r = and_parts (same_root n.root m.root) (are_first n.subs m.subs) p.1 in
    let e : m.root ≡ n.root = same_root_is m.root n.root q.0 in
    let f : m.subs ≡ n.subs = first_both m.subs n.subs q.1 r.1 in
    ap (λ (x : Root). record m { root = x }) e ∙ ap (λ (x : List (List ℕ)). record n { subs = x }) f

-- some held name that conflicts with this one
abbrev pub Excludes : Counts → LockName → Type 0
Excludes hs n = (m : LockName) × (0 < count_of hs m) × Conflict n m

counted : (b : Bool) (k c : ℕ) → b ≡ true → 0 < k → 0 < (if b then k else 0) + c
counted true k c e h = omega arith
counted false k c e h = cc

more : (b : Bool) (k c : ℕ) → 0 < c → 0 < (if b then k else 0) + c
more b k c h = omega arith

pub excludes_is : (hs : Counts) (n : LockName) → excludes hs n ≡ true → Excludes hs n
excludes_is [] n h = cc
excludes_is (x ∷ hs) n h = elim (or_cases (nat_lt 0 x.1 && in_conflict n x.0) (excludes hs n) h) [
  | inl e ↦
      let p = and_parts (nat_lt 0 x.1) (in_conflict n x.0) e in
      (x.0, counted (same_name x.0 x.0) x.1 (count_of hs x.0) (same_self x.0) (ltb-true 0 x.1 p.0), conflict_is n x.0 p.1)
  | inr e ↦ let r = excludes_is hs n e in (r.0, more (same_name x.0 r.0) x.1 (count_of hs r.0) r.1, r.2)
]

-- what is counted is counted at this entry, or after it
pub where_counted : (b : Bool) (k c : ℕ) → 0 < (if b then k else 0) + c → ((b ≡ true) × (0 < k)) ⊎ (0 < c)
where_counted false k c h = inr (omega arith)
where_counted true zero c h = inr (omega arith)
where_counted true (suc k) c h = inl (refl, omega arith)

pub excludes_if : (hs : Counts) (n : LockName) → Excludes hs n → excludes hs n ≡ true
excludes_if [] n (m, h, c) = absurd (omega arith)
excludes_if (x ∷ hs) n (m, h, c) = elim (where_counted (same_name x.0 m) x.1 (count_of hs m) h) [
  | inl p ↦
      let i : x.0 ≡ m = same_is x.0 m p.0 in
      let d : in_conflict n x.0 ≡ true = rw i (conflict_if n m c) in
      or_left _ (excludes hs n) (and_from (nat_lt 0 x.1) (in_conflict n x.0) (lt-ltb 0 x.1 p.1) d)
  | inr r ↦ or_right (nat_lt 0 x.1 && in_conflict n x.0) (excludes hs n) (excludes_if hs n (m, r, c))
]

pub names_tested : NamesTested
names_tested = record {
  above = λ m n. (above_is m n, above_if m n);
  conflict = λ m n. (conflict_is m n, conflict_if m n);
  same = λ m n. (same_is m n, λ (e : m ≡ n). let P : LockName → Type 0 = λ x. same_name m x ≡ true in subst P e (same_self m));
}

pub excludes_held : ExcludesHeld
excludes_held held n = (excludes_is held n, excludes_if held n)
