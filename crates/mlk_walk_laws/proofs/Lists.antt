-- The elements of lists, and of lists of distinct states.
use Rattle.std.proofs.Common.{◌≡◌, true, false, List, [], ◌∷◌, ◌++◌, map, refl, ap, sym, ◌∙◌, inl, inr, ⊎_elim, subst}
use Rattle.std.specs.Prelude.{◌⊎◌, ◌||◌, flat_map}
use Rattle.std.specs.List.{list_any}
use Rattle.std.proofs.lemmas.Bool.{cases_Bool, false≢true}
use Rattle.mlk_names.specs.Lists.{Among}
use Rattle.mlk_walk_state.specs.declared.state.State.{State}
use Rattle.mlk_walk_state.specs.States.{same_state}
use Rattle.mlk_walk_state.proofs.CaseTests.{same_decides}
use Rattle.mlk_walk_exprs.specs.Walks.{put_state, put_states}
use Rattle.mlk_walk_laws.specs.Fewer.{StatesDiffer}

-- lists one after another
pub in_front : {A : Type 0} (a : A) (xs ys : List A) → Among a xs → Among a (xs ++ ys)
in_front a [] ys h = absurd h
in_front a (x ∷ xs) ys (inl e) = inl e
in_front a (x ∷ xs) ys (inr h) = inr (in_front a xs ys h)

pub in_back : {A : Type 0} (a : A) (xs ys : List A) → Among a ys → Among a (xs ++ ys)
in_back a [] ys h = h
in_back a (x ∷ xs) ys h = inr (in_back a xs ys h)

pub in_either : {A : Type 0} (a : A) (xs ys : List A) → Among a (xs ++ ys) → Among a xs ⊎ Among a ys
in_either a [] ys h = inr h
in_either a (x ∷ xs) ys (inl e) = inl (inl e)
in_either a (x ∷ xs) ys (inr h) = ⊎_elim (λ (l : Among a xs). inl (inr l)) (λ (r : Among a ys). inr r) (in_either a xs ys h)

-- lists that are built item by item
pub in_map : {A B : Type 0} (f : A → B) (a : A) (xs : List A) → Among a xs → Among (f a) (map f xs)
in_map f a [] h = absurd h
in_map f a (x ∷ xs) (inl e) = inl (ap f e)
in_map f a (x ∷ xs) (inr h) = inr (in_map f a xs h)

pub from_map : {A B : Type 0} (f : A → B) (b : B) (xs : List A) → Among b (map f xs) → (a : A) × Among a xs × (b ≡ f a)
from_map f b [] h = absurd h
from_map f b (x ∷ xs) (inl e) = (x, inl refl, e)
from_map f b (x ∷ xs) (inr h) = let r = from_map f b xs h in (r.0, inr r.1, r.2)

pub in_flat : {A B : Type 0} (f : A → List B) (a : A) (b : B) (xs : List A) → Among a xs → Among b (f a) → Among b (flat_map f xs)
in_flat f a b [] h i = absurd h
in_flat f a b (x ∷ xs) (inl e) h = in_front b (f x) (flat_map f xs) (subst (λ z. Among b (f z)) e h)
in_flat f a b (x ∷ xs) (inr r) h = in_back b (f x) (flat_map f xs) (in_flat f a b xs r h)

pub from_flat : {A B : Type 0} (f : A → List B) (b : B) (xs : List A) → Among b (flat_map f xs) → (a : A) × Among a xs × Among b (f a)
from_flat f b [] h = absurd h
from_flat f b (x ∷ xs) h =
    ⊎_elim (λ (l : Among b (f x)). (x, inl refl, l))
    (λ (r : Among b (flat_map f xs)). let t = from_flat f b xs r in (t.0, inr t.1, t.2))
    (in_either b (f x) (flat_map f xs) h)

-- states that are found
pub found_there : (s : State) (ss : List State) → list_any (same_state s) ss ≡ true → Among s ss
found_there s (t ∷ ss) h =
    ⊎_elim (λ (e : same_state s t ≡ true). inl ((same_decides.states s t).0 e))
    (λ (e : same_state s t ≡ false). inr (found_there s ss (sym (ap (λ b. b || list_any (same_state s) ss) e) ∙ h)))
    (cases_Bool (same_state s t))
found_there s [] h = absurd (false≢true h)

pub there_found : (s : State) (ss : List State) → Among s ss → list_any (same_state s) ss ≡ true
there_found s [] h = absurd h
there_found s (t ∷ ss) (inl e) = rw ((same_decides.states s t).1 e) refl
there_found s (t ∷ ss) (inr h) =
    ⊎_elim (λ (e : same_state s t ≡ true). rw e refl) (λ (e : same_state s t ≡ false). rw e (there_found s ss h)) (cases_Bool (same_state s t))

-- one more state
pub put_old : (s t : State) (ss : List State) → Among s ss → Among s (put_state t ss)
put_old s t ss h =
    ⊎_elim (λ (e : list_any (same_state t) ss ≡ true). rw e h)
    (λ (e : list_any (same_state t) ss ≡ false). rw e (in_front s ss (t ∷ []) h)) (cases_Bool (list_any (same_state t) ss))

pub put_new : (s : State) (ss : List State) → Among s (put_state s ss)
put_new s ss =
    ⊎_elim (λ (e : list_any (same_state s) ss ≡ true). rw e (found_there s ss e))
    (λ (e : list_any (same_state s) ss ≡ false). rw e (in_back s ss (s ∷ []) (inl refl))) (cases_Bool (list_any (same_state s) ss))

in_one : (s t : State) → Among s (t ∷ []) → s ≡ t
in_one s t (inr h) = absurd h
in_one s t (inl e) = e

pub put_from : (s t : State) (ss : List State) → Among s (put_state t ss) → Among s ss ⊎ (s ≡ t)
put_from s t ss h =
    ⊎_elim (λ (e : list_any (same_state t) ss ≡ true). inl (rw e at h))
    (λ (e : list_any (same_state t) ss ≡ false). ⊎_elim (λ (l : Among s ss). inl l) (λ (r : Among s (t ∷ [])). inr (in_one s t r)) (in_either s ss (t ∷ []) (rw e at h)))
    (cases_Bool (list_any (same_state t) ss))

apart_with : (s t : State) (ss : List State) → (Among s ss → ⊥) → (s ≡ t → ⊥) → Among s (ss ++ t ∷ []) → ⊥
apart_with s t ss h k i = ⊎_elim (λ (l : Among s ss). h l) (λ (r : Among s (t ∷ [])). k (in_one s t r)) (in_either s ss (t ∷ []) i)

with_last : (s : State) (ss : List State) → (Among s ss → ⊥) → StatesDiffer ss → StatesDiffer (ss ++ s ∷ [])
with_last s [] h d = ((λ x. x), tt)
with_last s (t ∷ ss) h d = (apart_with t s ss d.0 (λ e. h (inl (sym e))), with_last s ss (λ i. h (inr i)) d.1)

pub put_distinct : (s : State) (ss : List State) → StatesDiffer ss → StatesDiffer (put_state s ss)
put_distinct s ss d =
    ⊎_elim (λ (e : list_any (same_state s) ss ≡ true). rw e d)
    (λ (e : list_any (same_state s) ss ≡ false). rw e (with_last s ss (λ i. false≢true (sym e ∙ there_found s ss i)) d))
    (cases_Bool (list_any (same_state s) ss))

-- more states
pub all_old : (s : State) (new ss : List State) → Among s ss → Among s (put_states new ss)
all_old s [] ss h = h
all_old s (t ∷ new) ss h = all_old s new (put_state t ss) (put_old s t ss h)

pub all_new : (s : State) (new ss : List State) → Among s new → Among s (put_states new ss)
all_new s [] ss h = absurd h
all_new s (t ∷ new) ss (inl e) = all_old s new (put_state t ss) (subst (λ z. Among s (put_state z ss)) e (put_new s ss))
all_new s (t ∷ new) ss (inr h) = all_new s new (put_state t ss) h

pub all_from : (s : State) (new ss : List State) → Among s (put_states new ss) → Among s ss ⊎ Among s new
all_from s [] ss h = inl h
all_from s (t ∷ new) ss h =
    ⊎_elim (λ (l : Among s (put_state t ss)). ⊎_elim (λ (o : Among s ss). inl o) (λ (e : s ≡ t). inr (inl e)) (put_from s t ss l))
    (λ (r : Among s new). inr (inr r)) (all_from s new (put_state t ss) h)

pub all_distinct : (new ss : List State) → StatesDiffer ss → StatesDiffer (put_states new ss)
all_distinct [] ss d = d
all_distinct (t ∷ new) ss d = all_distinct new (put_state t ss) (put_distinct t ss d)
