-- Walks that differ only in states that are too many: with either, the walk of the line is over.
use Rattle.std.proofs.Common.{◌≡◌, ◌⊎◌, ◌∙◌, ℕ, suc, true, false, List, [], ◌∷◌, ◌++◌, length, refl, ap, sym, inl, inr, ⊎_elim, arith}
use Rattle.std.specs.Prelude.{nat_lt, flat_map}
use Rattle.std.specs.List.{list_any}
use Rattle.std.proofs.lemmas.Bool.{cases_Bool}
use Rattle.std.proofs.lemmas.Bool.Decides.{nat_tests}
use Rattle.std.proofs.lemmas.List.Folds.{list_any-append}
use Rattle.mlk_walk_state.specs.declared.state.State.{State}
use Rattle.mlk_walk_state.specs.States.{same_state}
use Rattle.mlk_walk_exprs.specs.declared.walk.Walk.{Walk}
use Rattle.mlk_walk_exprs.specs.Walks.{Outcome, Goes, Skips, Quits, Refused, put_state, add, add_all, with_states, each, is_large, too_many, overfull, few}
use Rattle.mlk_walk_exprs.proofs.Gathering.{same_is}

-- one more state is too many if those before it are
nat_more : (n : ℕ) → nat_lt 16 n ≡ true → nat_lt 16 (suc n) ≡ true
nat_more n h = grind (arith, nat_tests)

length_more : (ss : List State) (s : State) → length (ss ++ s ∷ []) ≡ suc (length ss)
length_more [] s = refl
length_more (t ∷ ss) s = ap suc (length_more ss s)

any_more : (ss : List State) (s : State) → list_any is_large ss ≡ true → list_any is_large (ss ++ s ∷ []) ≡ true
any_more ss s h = list_any-append is_large ss (s ∷ []) ∙ rw h refl

any_last : (ss : List State) (s : State) → is_large s ≡ true → list_any is_large (ss ++ s ∷ []) ≡ true
any_last [] s h = rw h refl
any_last (t ∷ ss) s h = ⊎_elim (λ (e : is_large t ≡ true). rw e refl) (λ (e : is_large t ≡ false). rw e (any_last ss s h)) (cases_Bool (is_large t))

by_large : (ss : List State) → list_any is_large ss ≡ true → too_many ss ≡ true
unfolding too_many
by_large ss h = ⊎_elim (λ (e : nat_lt 16 (length ss) ≡ true). rw e refl) (λ (e : nat_lt 16 (length ss) ≡ false). rw e h) (cases_Bool (nat_lt 16 (length ss)))

too_many_more : (ss : List State) (s : State) → too_many ss ≡ true → too_many (put_state s ss) ≡ true
unfolding too_many
too_many_more ss s h = ⊎_elim
    (λ (e : list_any (same_state s) ss ≡ true). rw e h)
    (λ (e : list_any (same_state s) ss ≡ false). rw e (one_more (cases_Bool (nat_lt 16 (length ss)))))
    (cases_Bool (list_any (same_state s) ss))
  where
    one_more : (nat_lt 16 (length ss) ≡ true) ⊎ (nat_lt 16 (length ss) ≡ false) → too_many (ss ++ s ∷ []) ≡ true
    one_more (inl e) = rw (length_more ss s, nat_more (length ss) e) refl
    one_more (inr e) = let f : list_any is_large ss ≡ true = rw e at h in by_large (ss ++ s ∷ []) (any_more ss s f)

-- a large state, or one that is the same, makes them too many
among : (ss : List State) (s : State) → is_large s ≡ true → list_any (same_state s) ss ≡ true → list_any is_large ss ≡ true
among [] s h e = absurd (cc e)
among (t ∷ ss) s h e = ⊎_elim
    (λ (k : same_state s t ≡ true). let large : is_large t ≡ true = ap is_large (sym (same_is s t k)) ∙ h in rw large refl)
    (λ (k : same_state s t ≡ false). let f : list_any (same_state s) ss ≡ true = rw k at e in
    ⊎_elim (λ (l : is_large t ≡ true). rw l refl) (λ (l : is_large t ≡ false). rw l (among ss s h f)) (cases_Bool (is_large t)))
    (cases_Bool (same_state s t))

large_put : (ss : List State) (s : State) → is_large s ≡ true → too_many (put_state s ss) ≡ true
large_put ss s h = ⊎_elim
    (λ (e : list_any (same_state s) ss ≡ true). rw e (by_large ss (among ss s h e)))
    (λ (e : list_any (same_state s) ss ≡ false). rw e (by_large (ss ++ s ∷ []) (any_last ss s h)))
    (cases_Bool (list_any (same_state s) ss))

-- the same states, or too many of both
abbrev pub AlikeStates : List State → List State → Type 0
AlikeStates ss ts = (ss ≡ ts) ⊎ ((too_many ss ≡ true) × (too_many ts ≡ true))

pub record Alike (w v : Walk) : Type 0 where
  pub going : AlikeStates w.going v.going
  pub rest : with_states [] w ≡ with_states [] v

pub few_alike : (line word : ℕ) (w v : Walk) → Alike w v → few line word w ≡ few line word v
unfolding few
few_alike line word w v a = both a.going
  where
    both : AlikeStates w.going v.going → few line word w ≡ few line word v
    both (inl e) = ap (few line word) (ap (λ ss. with_states ss w) e ∙ ap (with_states v.going) a.rest)
    both (inr (f, g)) = rw (f, g) (ap (overfull line word) a.rest)

-- the same outcomes, or states that are both large
abbrev pub BothLarge : Outcome → Outcome → Type 0
BothLarge (Goes s) (Goes t) = (is_large s ≡ true) × (is_large t ≡ true)
BothLarge _ _ = ⊥

abbrev pub AllAlike : List Outcome → List Outcome → Type 0
AllAlike [] [] = Unit {0}
AllAlike (o ∷ os) (q ∷ qs) = ((o ≡ q) ⊎ BothLarge o q) × AllAlike os qs
AllAlike _ _ = ⊥

pub all_same : (os : List Outcome) → AllAlike os os
all_same [] = tt
all_same (o ∷ os) = (inl refl, all_same os)

append_alike : (os qs more others : List Outcome) → AllAlike os qs → AllAlike more others → AllAlike (os ++ more) (qs ++ others)
append_alike [] [] more others a b = b
append_alike [] (q ∷ qs) more others a b = absurd a
append_alike (o ∷ os) [] more others a b = absurd a
append_alike (o ∷ os) (q ∷ qs) more others (a, rest) b = (a, append_alike os qs more others rest b)

rows_alike : (f g : State → List Outcome) → ((s : State) → AllAlike (f s) (g s)) → (ss : List State) → AllAlike (flat_map f ss) (flat_map g ss)
rows_alike f g h [] = tt
rows_alike f g h (s ∷ ss) = append_alike (f s) (g s) (flat_map f ss) (flat_map g ss) (h s) (rows_alike f g h ss)

module _ (w v : Walk) (a : Alike w v) where
  put_same : (s : State) → AlikeStates w.going v.going → AlikeStates (put_state s w.going) (put_state s v.going)
  put_same s (inl e) = inl (ap (put_state s) e)
  put_same s (inr (f, g)) = inr (too_many_more w.going s f, too_many_more v.going s g)

  add_same : (o : Outcome) → Alike (add o w) (add o v)
  add_same (Goes s) = record { going = put_same s a.going; rest = a.rest }
  add_same (Skips c) = record { going = a.going; rest = ap (add (Skips c)) a.rest }
  add_same (Quits column c) = record { going = a.going; rest = ap (add (Quits column c)) a.rest }
  add_same (Refused line column code) = record { going = a.going; rest = ap (add (Refused line column code)) a.rest }

  add_large : (o q : Outcome) → BothLarge o q → Alike (add o w) (add q v)
  add_large (Goes s) (Goes t) (f, g) = record { going = inr (large_put w.going s f, large_put v.going t g); rest = a.rest }
  add_large (Goes s) (Skips c) h = absurd h
  add_large (Goes s) (Quits column c) h = absurd h
  add_large (Goes s) (Refused line column code) h = absurd h
  add_large (Skips c) q h = absurd h
  add_large (Quits column c) q h = absurd h
  add_large (Refused line column code) q h = absurd h

  add_alike : (o q : Outcome) → (o ≡ q) ⊎ BothLarge o q → Alike (add o w) (add q v)
  add_alike o q (inl e) = rw (sym e) (add_same o)
  add_alike o q (inr h) = add_large o q h

all_alike : (os qs : List Outcome) → AllAlike os qs → (w v : Walk) → Alike w v → Alike (add_all os w) (add_all qs v)
all_alike [] [] h w v a = a
all_alike [] (q ∷ qs) h w v a = absurd h
all_alike (o ∷ os) [] h w v a = absurd h
all_alike (o ∷ os) (q ∷ qs) (h, hs) w v a = all_alike os qs hs (add o w) (add q v) (add_alike w v a o q h)

pub each_alike : (f g : State → List Outcome) → ((s : State) → AllAlike (f s) (g s)) → (line word : ℕ) (w : Walk)
    → few line word (each f w) ≡ few line word (each g w)
each_alike f g h line word w = few_alike line word (each f w) (each g w)
    (all_alike (flat_map f w.going) (flat_map g w.going) (rows_alike f g h w.going) (with_states [] w) (with_states [] w)
    (record { going = inl refl; rest = refl }))
