-- Names that conflict have a key in common: one that is looked up for the one, and listed for the other.
use Rattle.std.proofs.Common.{◌≡◌, ℕ, ◌<◌, ◌==◌, true, List, [], ◌∷◌, refl, sym, subst, arith, inl, inr}
use Rattle.std.specs.Prelude.{nat_lt}
use Rattle.std.specs.List.{list_any}
use Rattle.std.proofs.lemmas.Bool.{and_parts, and_from, or_left, or_right, lt-ltb, eq-eqb}
use Rattle.std.proofs.lemmas.Slice.Eq.{bytes_eq-Decides}
use Rattle.std.specs.Prelude.{bytes_eq}
use Rattle.mlk_text.specs.declared.root.Root.{Root}
use Rattle.mlk_names.specs.Lists.{Among}
use Rattle.mlk_names.specs.declared.lock_name.LockName.{LockName}
use Rattle.mlk_names.specs.LockNames.{Conflict}
use Rattle.mlk_machine_locks.specs.Counts.{Counts, count_of}
use Rattle.mlk_machine_locks.specs.NameTests.{are_first, same_name}
use Rattle.mlk_machine_locks.specs.Keys.{root_key, deeper, itself, keys_from, keys_of, asked_from, asked_of, is_under}
use Rattle.mlk_machine_locks.proofs.ListLemmas.{any_to}
use Rattle.mlk_machine_locks.proofs.NameLemmas.{first_if, same_is, where_counted}

-- a key in common
abbrev pub Shared : List ℕ → List ℕ → Type 0
Shared asked listed = (key : ℕ) × Among key asked × Among key listed

-- the first of two names is above: a claim of it finds what is below it
found_below : (key : ℕ) (xs ys : List (List ℕ)) → are_first xs ys ≡ true → Shared (asked_from key xs) (keys_from key ys)
found_below key [] [] h = (key, inr (inl refl), inl refl)
found_below key [] (y ∷ ys) h = (key, inr (inl refl), inl refl)
found_below key (x ∷ xs) [] h = cc
found_below key (x ∷ xs) (y ∷ ys) h =
    let p = and_parts (bytes_eq x y) (are_first xs ys) h in
    let e : x ≡ y = (bytes_eq-Decides x y).0 p.0 in
    let r = found_below (deeper key x) xs ys p.1 in
    let P : List ℕ → Type 0 = λ z. Among r.0 (keys_from (deeper key z) ys) in
    (r.0, inr r.1, inr (subst P e r.2))

-- the second of two names is above: a claim of the first finds it
found_above : (key : ℕ) (xs ys : List (List ℕ)) → are_first ys xs ≡ true → Shared (asked_from key xs) (keys_from key ys)
found_above key [] [] h = (key, inr (inl refl), inl refl)
found_above key (x ∷ xs) [] h = (itself key, inl refl, inr (inl refl))
found_above key [] (y ∷ ys) h = cc
found_above key (x ∷ xs) (y ∷ ys) h =
    let p = and_parts (bytes_eq y x) (are_first ys xs) h in
    let e : y ≡ x = (bytes_eq-Decides y x).0 p.0 in
    let r = found_above (deeper key x) xs ys p.1 in
    let P : List ℕ → Type 0 = λ z. Among r.0 (keys_from (deeper key z) ys) in
    (r.0, inr r.1, inr (subst P (sym e) r.2))

pub found_by : (n m : LockName) → Conflict n m → Shared (asked_of n) (keys_of m)
found_by n m (inl h) =
    let r = found_below (root_key n.root) n.subs m.subs (first_if n.subs m.subs h.subs) in
    let P : Root → Type 0 = λ z. Among r.0 (keys_from (root_key z) m.subs) in
    (r.0, r.1, subst P h.root r.2)
found_by n m (inr h) =
    let r = found_above (root_key n.root) n.subs m.subs (first_if m.subs n.subs h.subs) in
    let P : Root → Type 0 = λ z. Among r.0 (keys_from (root_key z) m.subs) in
    (r.0, r.1, subst P (sym h.root) r.2)

pub is_among : (key : ℕ) (ks : List ℕ) → Among key ks → list_any (λ k. key == k) ks ≡ true
is_among key ks a = any_to (λ k. key == k) ks key a (eq-eqb key key refl)

-- what is held is found under each of its keys
pub under_if : (hs : Counts) (m : LockName) (key : ℕ) → 0 < count_of hs m → Among key (keys_of m) → is_under key hs ≡ true
under_if [] m key h a = absurd (omega (arith, h))
under_if (x ∷ hs) m key h a = elim (where_counted (same_name x.0 m) x.1 (count_of hs m) h) [
  | inl p ↦
      let i : x.0 ≡ m = same_is x.0 m p.0 in
      let P : LockName → Type 0 = λ n. list_any (λ k. key == k) (keys_of n) ≡ true in
      or_left _ (is_under key hs) (and_from (nat_lt 0 x.1) _ (lt-ltb 0 x.1 p.1) (subst P (sym i) (is_among key (keys_of m) a)))
  | inr r ↦ or_right _ (is_under key hs) (under_if hs m key r a)
]
