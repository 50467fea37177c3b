-- Lock tables find each job that holds a name that conflicts.
use Rattle.std.proofs.Common.{◌≡◌, ◌<◌, ◌+◌, ◌==◌, ℕ, Bool, true, false, cond, Option, Some, None, Result, Ok, Err, List, [], ◌∷◌, ◌++◌, length, refl, sym, ap, ◌∙◌, subst, arith, inl, inr}
use Rattle.std.specs.Prelude.{◌⊎◌, not, OnOk}
use Rattle.std.specs.List.{list_any, slice_get}
use Rattle.std.specs.Map.{lookup}
use Rattle.std.proofs.lemmas.Bool.{cases_Bool, cases_lt, and_parts, eqb-true, eqb-false}
use Rattle.std.proofs.lemmas.Option.{slice_get_within}
use Rattle.mlk_names.specs.Lists.{Among}
use Rattle.mlk_names.specs.declared.lock_name.LockName.{LockName}
use Rattle.mlk_machine_locks.specs.declared.holders.Holders.{Holders}
use Rattle.mlk_machine_locks.specs.declared.table.LockTable.{LockTable}
use Rattle.mlk_machine_locks.specs.NameTests.{same_name}
use Rattle.mlk_machine_locks.specs.Counts.{Counts, count_of, excludes}
use Rattle.mlk_machine_locks.specs.Keys.{deeper, itself, keys_from, keys_of, asked_from, asked_of, is_under}
use Rattle.mlk_machine_locks.specs.Waiting.{View, Holds, awaited, waits, waits_as, is_free_among}
use Rattle.mlk_machine_locks.specs.Searches.{IsFree, WaitsFreely, Waits}
use Rattle.mlk_machine_locks.specs.Tables.{is_one, IsListed, IsFound, ListsAll, Covers, keeps, Spares, IsStale, IsFreeUnder, CoversSome, CoversWaiting, AreAgainst}
use Rattle.mlk_machine_locks.proofs.ListLemmas.{any_from}
use Rattle.mlk_machine_locks.proofs.NameLemmas.{excludes_is, same_is, where_counted}
use Rattle.mlk_machine_locks.proofs.SearchLemmas.{place_in, stands_in, waits_not}
use Rattle.mlk_machine_locks.proofs.WaitLemmas.{waits_is}
use Rattle.mlk_machine_locks.proofs.KeyLemmas.{found_by, under_if}
use Rattle.mlk_machine_locks.proofs.HolderLemmas.{place_of_one}

-- Each of a list is still left, or a property holds of it: one after another is done.
module _ {A : Type 0} (Done More : A → Type 0) (all old : List A) (h : (k : A) → Among k all → Among k old ⊎ Done k) where
  pub one_done : (new : List A) (a : A) → old ≡ a ∷ new → ((k : A) → Done k → More k) → More a
      → (k : A) → Among k all → Among k new ⊎ More k
  one_done new a e more one k m = elim (h k m) [
    | inl b ↦ elim (subst (λ (l : List A). Among k l) e b) [
      | inl s ↦ inr (subst More (sym s) one)
      | inr t ↦ inl t
    ]
    | inr l ↦ inr (more k l)
  ]

pub all_done : {A : Type 0} (Done : A → Type 0) (all old : List A) → ((k : A) → Among k all → Among k old ⊎ Done k)
    → old ≡ [] → (k : A) → Among k all → Done k
all_done {A} Done all old h e k m = elim (h k m) [
  | inl b ↦ absurd (subst (λ (l : List A). Among k l) e b)
  | inr l ↦ l
]

pub two_done : {A : Type 0} (Done More Most : A → Type 0) (all old : List A) (a b : A)
    → ((k : A) → Among k all → Among k old ⊎ Done k) → old ≡ a ∷ b ∷ [] → ((k : A) → Done k → More k) → More a
    → ((k : A) → More k → Most k) → Most b → (k : A) → Among k all → Most k
two_done Done More Most all old a b h e more one most two =
    all_done Most all [] (one_done More Most all (b ∷ []) (one_done Done More all old h (b ∷ []) a e more one) [] b refl most two) refl

pub on_ok : {A E : Type 0} {P Q : Type 0} (r : Result A E) → (P → Q) → OnOk r P → OnOk r Q
on_ok (Ok a) f h = f h
on_ok (Err e) f h = h

pub both_ok : {A E : Type 0} {P Q R : Type 0} (r : Result A E) → (P → Q → R) → OnOk r P → OnOk r Q → OnOk r R
both_ok (Ok a) f h k = f h k
both_ok (Err e) f h k = h

pub no_items : {A : Type 0} (xs : List A) → length xs ≡ 0 → xs ≡ []
no_items [] h = refl
no_items (x ∷ xs) h = absurd (omega (arith, h))

-- the keys of the rest of a name
pub next_keys : (key next : ℕ) (left others : List (List ℕ)) (s : List ℕ) → left ≡ s ∷ others → next ≡ deeper key s
    → keys_from key left ≡ key ∷ keys_from next others
next_keys key next left others s e d = ap (keys_from key) e ∙ ap (λ z. key ∷ keys_from z others) (sym d)

pub next_asked : (key next mark : ℕ) (left others : List (List ℕ)) (s : List ℕ) → left ≡ s ∷ others → mark ≡ itself key
    → next ≡ deeper key s → asked_from key left ≡ mark ∷ asked_from next others
next_asked key next mark left others s e m d =
    ap (asked_from key) e ∙ ap (λ z. itself key ∷ asked_from z others) (sym d)
    ∙ ap (λ z. z ∷ asked_from next others) (sym m)

pub last_keys : (key mark : ℕ) (left : List (List ℕ)) → length left ≡ 0 → mark ≡ itself key
    → keys_from key left ≡ key ∷ mark ∷ []
last_keys key mark left e m = ap (keys_from key) (no_items left e) ∙ ap (λ z. key ∷ z ∷ []) (sym m)

pub last_asked : (key mark : ℕ) (left : List (List ℕ)) → length left ≡ 0 → mark ≡ itself key
    → asked_from key left ≡ mark ∷ key ∷ []
last_asked key mark left e m = ap (asked_from key) (no_items left e) ∙ ap (λ z. z ∷ key ∷ []) (sym m)

pub found_still : (old new : LockTable) (place : ℕ) (n : LockName) → ListsAll old new → IsFound old place n → IsFound new place n
found_still old new place n more f key a = more key place (f key a)

-- a table after the holders of a key were replaced
abbrev pub Updated : List (ℕ × Holders) → List (ℕ × Holders) → ℕ → Holders → Type 0
Updated old new key w = (q : ℕ) → lookup (λ k. q == k) new ≡ cond (key == q) (Some w) (lookup (λ k. q == k) old)

module _ (old new : List (ℕ × Holders)) (key : ℕ) (w : Holders) (u : Updated old new key w) where
  pub updated_there : lookup (λ k. key == k) new ≡ Some w
  updated_there = elim (cases_Bool (key == key)) [
    | inl e ↦ u key ∙ ap (λ b. cond b (Some w) (lookup (λ k. key == k) old)) e
    | inr e ↦ absurd (eqb-false key key e refl)
  ]

  pub updated_else : (q : ℕ) (h : Holders) → lookup (λ k. q == k) old ≡ Some h
      → ((key ≡ q) × (lookup (λ k. q == k) new ≡ Some w)) ⊎ (lookup (λ k. q == k) new ≡ Some h)
  updated_else q h e = elim (cases_Bool (key == q)) [
    | inl t ↦ inl (eqb-true key q t, u q ∙ ap (λ b. cond b (Some w) (lookup (λ k. q == k) old)) t)
    | inr f ↦ inr (u q ∙ ap (λ b. cond b (Some w) (lookup (λ k. q == k) old)) f ∙ e)
  ]

  abbrev Listed : List (ℕ × Holders) → ℕ → ℕ → Type 0
  Listed es q place = (h : Holders) × (lookup (λ k. q == k) es ≡ Some h) × (is_one h place ≡ true)

  -- what was listed is still listed, if the holders of the key keep it
  pub listed_still : (o : Option Holders) → lookup (λ k. key == k) old ≡ o
      → ((h : Holders) → o ≡ Some h → (i : ℕ) → is_one h i ≡ true → is_one w i ≡ true)
      → (q place : ℕ) → Listed old q place → Listed new q place
  listed_still o e keep q place l = elim (updated_else q l.0 l.1) [
    | inl same ↦
        let f : o ≡ Some l.0 = sym e ∙ ap (λ z. lookup (λ k. z == k) old) same.0 ∙ l.1 in
        (w, same.1, keep l.0 f place l.2)
    | inr other ↦ (l.0, other, l.2)
  ]

pub same_holders : (es : List (ℕ × Holders)) (key : ℕ) (g h : Holders) → lookup (λ k. key == k) es ≡ Some g
    → lookup (λ k. key == k) es ≡ Some h → g ≡ h
same_holders es key g h e f = let s : Some g ≡ Some h = sym e ∙ f in cc

module _ {X : Type 0} (seen : X → View) (xs : List X) (number : ℕ) (name : LockName) (key : ℕ) (t : LockTable)
    (covers : Covers seen t xs) where
  -- none is listed under the key
  pub none_under : lookup (λ k. key == k) t.holders.entries ≡ None → IsFreeUnder seen xs number name key
  none_under e i m held a = let l = covers i m held key a in let z : None ≡ Some l.0 = sym e ∙ l.1 in cc

  pub free_under : (h : Holders) → lookup (λ k. key == k) t.holders.entries ≡ Some h
      → ((i : ℕ) → is_one h i ≡ true → Spares seen xs number name i) → IsFreeUnder seen xs number name key
  free_under h e f i m held a =
      let l = covers i m held key a in
      let s : l.0 ≡ h = same_holders t.holders.entries key l.0 h l.1 e in
      f i (subst (λ g. is_one g i ≡ true) s l.2)

  -- those that hold nothing of the key are no longer listed
  pub covers_still : (new : LockTable) (h w : Holders) → lookup (λ k. key == k) t.holders.entries ≡ Some h
      → Updated t.holders.entries new.holders.entries key w
      → ((i : ℕ) → is_one h i ≡ true → (is_one w i ≡ true) ⊎ IsStale seen xs key i) → Covers seen new xs
  covers_still new h w e u stay i m held q a =
      let l = covers i m held q a in
      elim (updated_else t.holders.entries new.holders.entries key w u q l.0 l.1) [
        | inl same ↦
            let s : l.0 ≡ h =
            same_holders t.holders.entries key l.0 h (ap (λ z. lookup (λ k. z == k) t.holders.entries) same.0 ∙ l.1) e in
            elim (stay i (subst (λ g. is_one g i ≡ true) s l.2)) [
              | inl there ↦ (w, same.1, there)
              | inr stale ↦
                  let b : is_under key (seen held.0).held ≡ false = stale held.0 held.1 in
                  let c : is_under key (seen held.0).held ≡ true =
                  under_if (seen held.0).held m key held.2 (subst (λ z. Among z (keys_of m)) (sym same.0) a) in
                  let z : false ≡ true = sym b ∙ c in cc
            ]
        | inr other ↦ (l.0, other, l.2)
      ]

module _ {X : Type 0} (seen : X → View) (xs : List X) (number : ℕ) (name : LockName) where
  -- if all keys that are looked up are free, no other job keeps the name
  pub none_keeps : ((k : ℕ) → Among k (asked_of name) → IsFreeUnder seen xs number name k)
      → list_any (keeps seen number name) xs ≡ false
  none_keeps f = elim (cases_Bool (list_any (keeps seen number name) xs)) [
    | inl t ↦
        let r = any_from (keeps seen number name) xs t in
        let p = place_in xs r.0 r.1 in
        let b = and_parts (not ((seen r.0).number == number)) (excludes (seen r.0).held name) r.2 in
        let m = excludes_is (seen r.0).held name b.1 in
        let s = found_by name m.0 m.2 in
        let z : true ≡ false = sym r.2 ∙ f s.0 s.1 p.0 m.0 (r.0, p.1, m.1) s.2 r.0 p.1 in cc
    | inr e ↦ e
  ]

  pub free_so : (b : Bool) → (b ≡ true → list_any (keeps seen number name) xs ≡ true)
      → (b ≡ false → (k : ℕ) → Among k (asked_of name) → IsFreeUnder seen xs number name k)
      → not b ≡ is_free_among seen xs number name
  free_so true h f = ap not (sym (h refl))
  free_so false h f = ap not (sym (none_keeps (f refl)))

pub among_ones : (h : Holders) (i : ℕ) → is_one h i ≡ true → Among i h.places.keys
among_ones h i e = let p = place_of_one h.places.keys i e in stands_in h.places.keys i p.0 p.1

pub among_first : (xs ys : List ℕ) (i : ℕ) → Among i xs → Among i (xs ++ ys)
among_first [] ys i a = absurd a
among_first (x ∷ xs) ys i (inl e) = inl e
among_first (x ∷ xs) ys i (inr a) = inr (among_first xs ys i a)

pub among_second : (xs ys : List ℕ) (i : ℕ) → Among i ys → Among i (xs ++ ys)
among_second [] ys i a = a
among_second (x ∷ xs) ys i a = inr (among_second xs ys i a)

pub listed_added : (t : LockTable) (key i : ℕ) (h : Holders) (old new : List ℕ)
    → lookup (λ k. key == k) t.holders.entries ≡ Some h → new ≡ old ++ h.places.keys → IsListed t key i → Among i new
listed_added t key i h old new e f l =
    let s : l.0 ≡ h = same_holders t.holders.entries key l.0 h l.1 e in
    subst (λ (z : List ℕ). Among i z) (sym f)
    (among_second old h.places.keys i (among_ones h i (subst (λ g. is_one g i ≡ true) s l.2)))

-- one more name is found
pub held_done : (old new : LockTable) (place : ℕ) (all left others : Counts) (e : LockName × ℕ)
    → ((n : LockName) → 0 < count_of all n → (0 < count_of left n) ⊎ IsFound old place n) → left ≡ e ∷ others
    → ListsAll old new → IsFound new place e.0
    → (n : LockName) → 0 < count_of all n → (0 < count_of others n) ⊎ IsFound new place n
held_done old new place all left others e h l more one n p = elim (h n p) [
  | inl q ↦ elim (where_counted (same_name e.0 n) e.1 (count_of others n) (subst (λ (z : Counts). 0 < count_of z n) l q)) [
    | inl s ↦ inr (subst (IsFound new place) (same_is e.0 n s.0) one)
    | inr r ↦ inl r
  ]
  | inr f ↦ inr (found_still old new place n more f)
]

pub held_all : (t : LockTable) (place : ℕ) (all left : Counts)
    → ((n : LockName) → 0 < count_of all n → (0 < count_of left n) ⊎ IsFound t place n) → length left ≡ 0
    → (n : LockName) → 0 < count_of all n → IsFound t place n
held_all t place all left h e n p = elim (h n p) [
  | inl q ↦ let z : 0 < 0 = subst (λ (l : Counts). 0 < count_of l n) (no_items left e) q in absurd (omega (arith, z))
  | inr f ↦ f
]

-- those that wait, listed by what they hold
pub covers_more : {X : Type 0} (seen : X → View) (xs : List X) (old new : LockTable) (place : ℕ) (x : X)
    → CoversSome seen old xs place → ListsAll old new → slice_get xs place ≡ Some x
    → ((0 ≡ length (awaited (seen x).next)) ⊎ ((n : LockName) → Holds (seen x) n → IsFound new place n))
    → CoversSome seen new xs (place + 1)
covers_more {X} seen xs old new place x h more e one i y l f = elim (cases_lt i place) [
  | inl less ↦ elim (h i y less f) [
    | inl none ↦ inl none
    | inr found ↦ inr (λ n p. found_still old new i n more (found n p))
  ]
  | inr past ↦
      let z : i ≡ place = omega (arith, l, past) in
      let g : Some x ≡ Some y = sym e ∙ ap (slice_get xs) (sym z) ∙ f in
      let same : x ≡ y = cc in
      let P : ℕ → X → Type 0 = λ k w.
      (0 ≡ length (awaited (seen w).next)) ⊎ ((n : LockName) → Holds (seen w) n → IsFound new k n) in
      subst (λ k. P k y) (sym z) (subst (P place) same one)
]

-- a job waits only for those that a table of all waiting jobs has against its names, and for jobs that are in no ring
pub waits_from : {X : Type 0} (seen : X → View) (xs : List X) (t : LockTable) (x : X) (found : List ℕ)
    → CoversWaiting seen t xs → AreAgainst t (awaited (seen x).next) found → Waits (waits_as seen) xs x found
waits_from {X} seen xs t x found covers against i = at (slice_get xs i) refl
  where
    does : (y : X) → slice_get xs i ≡ Some y → (b : Bool) → waits (seen x) (seen y) ≡ b
        → Among i found ⊎ WaitsFreely (waits_as seen) xs x i
    does y e true w = elim (covers i y (slice_get_within xs i y e) e) [
      | inl none ↦ inr (λ z g v.
          let s : Some y ≡ Some z = sym e ∙ g in
          let same : y ≡ z = cc in
          subst (IsFree (waits_as seen) xs) same (waits_not seen xs y none))
      | inr all ↦
          let f = waits_is (seen x) (seen y) w in
          let k = found_by f.name f.kept f.conflict in
          inl (against f.name f.is_awaited k.0 k.1 i (all f.kept f.is_kept k.0 k.2))
    ]
    does y e false w = inr (λ z g v.
        let s : Some y ≡ Some z = sym e ∙ g in
        let same : y ≡ z = cc in
        let c : false ≡ true = sym w ∙ ap (λ u. waits (seen x) (seen u)) same ∙ v in absurd (cc))

    at : (o : Option X) → slice_get xs i ≡ o → Among i found ⊎ WaitsFreely (waits_as seen) xs x i
    at None e = inr (λ z g v. let s : None ≡ Some z = sym e ∙ g in absurd (cc))
    at (Some y) e = does y e (waits (seen x) (seen y)) refl
