-- What terms denote depends on the values of the locals that they mention.
use Rattle.std.proofs.Common.{◌≡◌, ℕ, ◌+◌, Bool, true, false, List, [], ◌∷◌, ◌++◌, Some, refl, sym, ap, ◌∙◌, subst, ⊎_elim, inl, inr, map, reverse}
use Rattle.std.specs.Prelude.{◌⊎◌, bytes_eq}
use Rattle.std.specs.List.{list_any}
use Rattle.std.proofs.lemmas.Bool.{cases_Bool, or_cases, or_left, or_right}
use Rattle.std.proofs.lemmas.Slice.Eq.{bytes_eq-Decides}
use Rattle.std.proofs.lemmas.List.{reverse-append}
use Rattle.mlk_names.specs.declared.lock_name.LockName.{LockName}
use Rattle.mlk_names.specs.declared.term.LockTerm.{LockTerm}
use Rattle.mlk_names.specs.declared.symbol.Sym.{Sym}
use Rattle.mlk_names.specs.declared.symbol.Sym.TheVariants as sym
use Rattle.mlk_names.specs.declared.known_symbol.KnownSym.{KnownSym}
use Rattle.mlk_names.specs.declared.known_symbol.KnownSym.TheVariants as known
use Rattle.mlk_names.specs.Symbols.{Assignment, StandsFor}
use Rattle.mlk_cert_parts.specs.declared.names.NameSet.{NameSet}
use Rattle.mlk_walk_state.specs.Lists.{all_some}
use Rattle.mlk_walk_state.specs.Names.{have}
use Rattle.mlk_walk_state.specs.Terms.{is_such, mention_such, mention}
use Rattle.mlk_calls.specs.Changes.{marked}
use Rattle.mlk_soundness_machine.specs.Reads.{value_of, times, mentions}
use Rattle.mlk_soundness_machine.specs.Described.{is_local, some_local, Slot, Kept, Bare, Spent, Blank, Fills}

pub differs : {A : Type 0} (b : Bool) → b ≡ true → b ≡ false → A
differs b h k = let e : true ≡ false = sym h ∙ k in cc

pub name_is : (n m : List ℕ) → bytes_eq n m ≡ true → n ≡ m
name_is n m h = (bytes_eq-Decides n m).0 h

pub name_self : (n : List ℕ) → bytes_eq n n ≡ true
name_self n = (bytes_eq-Decides n n).1 refl

abbrev pub of_subs : List ℕ → List KnownSym → Bool
of_subs x subs = list_any (is_such (λ n. bytes_eq n x)) subs

pub mentions_first : (x : List ℕ) (t : LockTerm) (ts : List LockTerm) → of_subs x t.subs ≡ true → mentions x (t ∷ ts) ≡ true
unfolding mentions
mentions_first x t ts h = or_left (of_subs x t.subs) (mention_such (λ n. bytes_eq n x) ts) h

pub mentions_later : (x : List ℕ) (t : LockTerm) (ts : List LockTerm) → mentions x ts ≡ true → mentions x (t ∷ ts) ≡ true
unfolding mentions
mentions_later x t ts h = or_right (of_subs x t.subs) (mention_such (λ n. bytes_eq n x) ts) h

-- a list of terms does not mention a name if none of its terms does
such_of : (p : List ℕ → Bool) (x : List ℕ) (subs : List KnownSym) → of_subs x subs ≡ true → p x ≡ true → list_any (is_such p) subs ≡ true
such_of p x [] h k = differs false h refl
such_of p x (s ∷ subs) h k =
    ⊎_elim
    (λ u. or_left (is_such p s) (list_any (is_such p) subs) (here s u))
    (λ u. or_right (is_such p s) (list_any (is_such p) subs) (such_of p x subs u k))
    (or_cases (is_such (λ n. bytes_eq n x) s) (of_subs x subs) h)
  where
    here : (s : KnownSym) → is_such (λ n. bytes_eq n x) s ≡ true → is_such p s ≡ true
    here (known.Const v) u = differs false u refl
    here (known.Local n) u = let z : n ≡ x = name_is n x u in rw z k
    here known.Job u = differs false u refl

pub mentioned_such : (p : List ℕ → Bool) (x : List ℕ) (ts : List LockTerm) → mentions x ts ≡ true → p x ≡ true → mention_such p ts ≡ true
unfolding mentions
mentioned_such p x [] h k = differs false h refl
mentioned_such p x (t ∷ ts) h k =
    ⊎_elim
    (λ u. or_left (list_any (is_such p) t.subs) (mention_such p ts) (such_of p x t.subs u k))
    (λ u. or_right (list_any (is_such p) t.subs) (mention_such p ts) (mentioned_such p x ts u k))
    (or_cases (of_subs x t.subs) (mention_such (λ n. bytes_eq n x) ts) h)

pub unmentioned : (names : List NameSet) (x : List ℕ) (ts : List LockTerm) → mention names ts ≡ false → mentions x ts ≡ true → have names x ≡ false
unmentioned names x ts h k =
    ⊎_elim (λ u. differs (mention names ts) (mentioned_such (have names) x ts k u) h) (λ u. u) (cases_Bool (have names x))

-- readings
module _ (a b : Assignment) (job : b.job ≡ a.job) where
  subs_same : (subs : List KnownSym) → ((x : List ℕ) → of_subs x subs ≡ true → b.locals x ≡ a.locals x) → all_some (value_of b) subs ≡ all_some (value_of a) subs
  subs_same [] h = refl
  subs_same (s ∷ subs) h =
      let e : value_of b s ≡ value_of a s = one s (λ x u. h x (or_left (is_such (λ n. bytes_eq n x) s) (of_subs x subs) u)) in
      let f : all_some (value_of b) subs ≡ all_some (value_of a) subs = subs_same subs (λ x u. h x (or_right (is_such (λ n. bytes_eq n x) s) (of_subs x subs) u)) in
      rw (e, f) refl
    where
      one : (s : KnownSym) → ((x : List ℕ) → is_such (λ n. bytes_eq n x) s ≡ true → b.locals x ≡ a.locals x) → value_of b s ≡ value_of a s
      one (known.Const v) h = refl
      one (known.Local n) h = h n (name_self n)
      one known.Job h = ap Some job

  pub times_same : (ts : List LockTerm) → ((x : List ℕ) → mentions x ts ≡ true → b.locals x ≡ a.locals x) → (m : LockName) → times b ts m ≡ times a ts m
  times_same [] h m = refl
  times_same (t ∷ ts) h m =
      let e = subs_same t.subs (λ x u. h x (mentions_first x t ts u)) in
      let f = times_same ts (λ x u. h x (mentions_later x t ts u)) m in
      rw (e, f) refl

  pub stands_same : (s : Sym) (v : List ℕ) → ((x : List ℕ) → is_local x s ≡ true → b.locals x ≡ a.locals x) → StandsFor a s v → StandsFor b s v
  stands_same (sym.Const w) v h k = k
  stands_same (sym.Local n) v h k = h n (name_self n) ∙ k
  stands_same sym.Job v h k = k ∙ sym job
  stands_same sym.Unknown v h k = tt

-- captured symbols, the last one first
pub local_last : (x : List ℕ) (ss : List Sym) (s : Sym) → some_local x (ss ++ s ∷ []) ≡ true → (is_local x s ≡ true) ⊎ (some_local x ss ≡ true)
unfolding some_local
local_last x [] s h = ⊎_elim (λ u. inl u) (λ u. differs false u refl) (or_cases (is_local x s) false h)
local_last x (t ∷ ss) s h =
    ⊎_elim
    (λ u. inr (or_left (is_local x t) (list_any (is_local x) ss) u))
    (λ u. ⊎_elim (λ v. inl v) (λ v. inr (or_right (is_local x t) (list_any (is_local x) ss) v)) (local_last x ss s u))
    (or_cases (is_local x t) (list_any (is_local x) (ss ++ s ∷ [])) h)

pub local_first : (x : List ℕ) (s : Sym) (ss : List Sym) → is_local x s ≡ true → some_local x (s ∷ ss) ≡ true
unfolding some_local
local_first x s ss h = or_left (is_local x s) (list_any (is_local x) ss) h

pub local_later : (x : List ℕ) (s : Sym) (ss : List Sym) → some_local x ss ≡ true → some_local x (s ∷ ss) ≡ true
unfolding some_local
local_later x s ss h = or_right (is_local x s) (list_any (is_local x) ss) h

pub local_front : (x : List ℕ) (ss ts : List Sym) → some_local x ss ≡ true → some_local x (ss ++ ts) ≡ true
unfolding some_local
local_front x [] ts h = differs false h refl
local_front x (s ∷ ss) ts h =
    ⊎_elim
    (λ u. or_left (is_local x s) (list_any (is_local x) (ss ++ ts)) u)
    (λ u. or_right (is_local x s) (list_any (is_local x) (ss ++ ts)) (local_front x ss ts u))
    (or_cases (is_local x s) (list_any (is_local x) ss) h)

pub local_back : (x : List ℕ) (ss ts : List Sym) → some_local x ts ≡ true → some_local x (ss ++ ts) ≡ true
unfolding some_local
local_back x [] ts h = h
local_back x (s ∷ ss) ts h = or_right (is_local x s) (list_any (is_local x) (ss ++ ts)) (local_back x ss ts h)

pub local_reversed : (x : List ℕ) (ss : List Sym) → some_local x (reverse ss) ≡ true → some_local x ss ≡ true
local_reversed x [] h = h
local_reversed x (s ∷ ss) h =
    ⊎_elim (λ u. local_first x s ss u) (λ u. local_later x s ss (local_reversed x ss u))
    (local_last x (reverse ss) s (subst (λ z. some_local x z ≡ true) (reverse-append (s ∷ []) ss) h))

pub fills_same : (a b : Assignment) → b.job ≡ a.job → (slots : List Slot) (ss : List Sym) (vs below : List (List ℕ)) → ((x : List ℕ) → some_local x ss ≡ true → b.locals x ≡ a.locals x)
    → Fills a slots ss vs below → Fills b slots ss vs below
fills_same a b job [] [] vs below h f = f
fills_same a b job [] (s ∷ ss) vs below h f = absurd f
fills_same a b job (Kept ∷ slots) [] vs below h f = absurd f
fills_same a b job (Kept ∷ slots) (s ∷ ss) [] below h f = absurd f
fills_same a b job (Kept ∷ slots) (s ∷ ss) (v ∷ vs) below h f =
    (stands_same a b job s v (λ x u. h x (local_first x s ss u)) f.0, fills_same a b job slots ss vs below (λ x u. h x (local_later x s ss u)) f.1)
fills_same a b job (Bare known ∷ slots) ss [] below h f = absurd f
fills_same a b job (Bare known ∷ slots) ss (v ∷ vs) below h f = (f.0, fills_same a b job slots ss vs below h f.1)
fills_same a b job (Spent v ∷ slots) [] vs below h f = absurd f
fills_same a b job (Spent v ∷ slots) (s ∷ ss) vs below h f =
    (stands_same a b job s v (λ x u. h x (local_first x s ss u)) f.0, fills_same a b job slots ss vs below (λ x u. h x (local_later x s ss u)) f.1)
fills_same a b job (Blank ∷ slots) [] vs below h f = absurd f
fills_same a b job (Blank ∷ slots) (s ∷ ss) vs below h f = (f.0, fills_same a b job slots ss vs below (λ x u. h x (local_later x s ss u)) f.1)

-- what is marked
marked_local : (names : List NameSet) (x : List ℕ) (s : Sym) → is_local x (marked names s) ≡ true → (have names x ≡ false) × (is_local x s ≡ true)
marked_local names x (sym.Const v) h = differs false h refl
marked_local names x (sym.Local n) h =
    ⊎_elim
    (λ (u : have names n ≡ true). let z : false ≡ true = (rw u at h) in cc)
    (λ (u : have names n ≡ false). let z : bytes_eq n x ≡ true = (rw u at h) in (subst (λ y. have names y ≡ false) (name_is n x z) u, z))
    (cases_Bool (have names n))
marked_local names x sym.Job h = differs false h refl
marked_local names x sym.Unknown h = differs false h refl

pub marked_some : (names : List NameSet) (x : List ℕ) (ss : List Sym) → some_local x (map (marked names) ss) ≡ true → (have names x ≡ false) × (some_local x ss ≡ true)
unfolding some_local
marked_some names x [] h = differs false h refl
marked_some names x (s ∷ ss) h =
    ⊎_elim
    (λ u. let q = marked_local names x s u in (q.0, or_left (is_local x s) (list_any (is_local x) ss) q.1))
    (λ u. let q = marked_some names x ss u in (q.0, or_right (is_local x s) (list_any (is_local x) ss) q.1))
    (or_cases (is_local x (marked names s)) (list_any (is_local x) (map (marked names) ss)) h)

pub marked_stands : (names : List NameSet) (a : Assignment) (s : Sym) (v : List ℕ) → StandsFor a s v → StandsFor a (marked names s) v
marked_stands names a (sym.Const w) v h = h
marked_stands names a (sym.Local n) v h = ⊎_elim (λ (u : have names n ≡ true). rw u tt) (λ (u : have names n ≡ false). rw u h) (cases_Bool (have names n))
marked_stands names a sym.Job v h = h
marked_stands names a sym.Unknown v h = tt

pub marked_fills : (names : List NameSet) (a : Assignment) (slots : List Slot) (ss : List Sym) (vs below : List (List ℕ)) → Fills a slots ss vs below → Fills a slots (map (marked names) ss) vs below
marked_fills names a [] [] vs below f = f
marked_fills names a [] (s ∷ ss) vs below f = absurd f
marked_fills names a (Kept ∷ slots) [] vs below f = absurd f
marked_fills names a (Kept ∷ slots) (s ∷ ss) [] below f = absurd f
marked_fills names a (Kept ∷ slots) (s ∷ ss) (v ∷ vs) below f = (marked_stands names a s v f.0, marked_fills names a slots ss vs below f.1)
marked_fills names a (Bare known ∷ slots) ss [] below f = absurd f
marked_fills names a (Bare known ∷ slots) ss (v ∷ vs) below f = (f.0, marked_fills names a slots ss vs below f.1)
marked_fills names a (Spent v ∷ slots) [] vs below f = absurd f
marked_fills names a (Spent v ∷ slots) (s ∷ ss) vs below f = (marked_stands names a s v f.0, marked_fills names a slots ss vs below f.1)
marked_fills names a (Blank ∷ slots) [] vs below f = absurd f
marked_fills names a (Blank ∷ slots) (s ∷ ss) vs below f = (ap (marked names) f.0, marked_fills names a slots ss vs below f.1)

pub reversed_map : {A B : Type 0} (f : A → B) (xs : List A) → reverse (map f xs) ≡ map f (reverse xs)
reversed_map f [] = refl
reversed_map f (x ∷ xs) =
    reverse-append (f x ∷ []) (map f xs) ∙ ap (λ z. z ++ f x ∷ []) (reversed_map f xs) ∙ sym (map_back f (reverse xs) x) ∙ ap (map f) (sym (reverse-append (x ∷ []) xs))
  where
    map_back : {A B : Type 0} (f : A → B) (ys : List A) (y : A) → map f (ys ++ y ∷ []) ≡ map f ys ++ f y ∷ []
    map_back f [] y = refl
    map_back f (z ∷ ys) y = ap (λ l. f z ∷ l) (map_back f ys y)
