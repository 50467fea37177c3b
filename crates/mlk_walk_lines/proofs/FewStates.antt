-- The first states of a walk show whether it has too many.
use Rattle.std.proofs.Common.{◌≡◌, ◌≤◌, ◌<◌, ℕ, true, false, List, [], ◌∷◌, ◌++◌, length, take, refl, ap, sym, ◌∙◌, ⊎_elim, arith}
use Rattle.std.specs.Prelude.{OnOk, Result, Ok, Err, nat_lt, if◌then◌else◌, ◌||◌}
use Rattle.std.specs.List.{list_any}
use Rattle.std.proofs.lemmas.Bool.{cases_Bool, cases_lt, true≢false, ltb-true}
use Rattle.std.proofs.lemmas.Bool.Decides.{nat_tests}
use Rattle.std.proofs.lemmas.List.{take-append-le, length-take-le, take_all, length-append}
use Rattle.mlk_walk_state.specs.declared.state.State.{State}
use Rattle.mlk_walk_state.specs.States.{same_state}
use Rattle.mlk_walk_exprs.specs.declared.walk.Walk.{Walk}
use Rattle.mlk_walk_exprs.specs.Walks.{put_state, put_states, with_states, is_large, too_many, few, joined}
use Rattle.mlk_walk_lines.specs.Counting.{counted}

-- one more state leaves those before it unchanged
put_longer : (s : State) (ss : List State) → length ss ≤ length (put_state s ss)
put_longer s ss =
    ⊎_elim (λ (e : list_any (same_state s) ss ≡ true). rw e (omega arith))
    (λ (e : list_any (same_state s) ss ≡ false). rw e (rw (length-append ss (s ∷ [])) (omega arith)))
    (cases_Bool (list_any (same_state s) ss))

put_first : (n : ℕ) (s : State) (ss : List State) → n ≤ length ss → take n (put_state s ss) ≡ take n ss
put_first n s ss h =
    ⊎_elim (λ (e : list_any (same_state s) ss ≡ true). rw e refl)
    (λ (e : list_any (same_state s) ss ≡ false). rw e (take-append-le n ss (s ∷ []) h))
    (cases_Bool (list_any (same_state s) ss))

pub all_first : (n : ℕ) (new ss : List State) → n ≤ length ss → take n (put_states new ss) ≡ take n ss
all_first n [] ss h = refl
all_first n (s ∷ new) ss h =
    let longer = put_longer s ss in
    all_first n new (put_state s ss) (omega (arith, longer)) ∙ put_first n s ss h

-- so the first of all are those of the first and the others
first_of_all : (n : ℕ) (new ss : List State) → take n (put_states new (take n ss)) ≡ take n (put_states new ss)
first_of_all n new ss =
    ⊎_elim
    (λ (h : n < length ss).
    all_first n new (take n ss) (let e = length-take-le n ss (omega arith) in omega (arith, e))
    ∙ take_all n (take n ss) (let e = length-take-le n ss (omega arith) in omega (arith, e))
    ∙ sym (all_first n new ss (omega arith)))
    (λ (h : length ss ≤ n). ap (λ z. take n (put_states new z)) (take_all n ss h))
    (cases_lt n (length ss))

-- one more state, and one that is omitted since there are many
put_last : (s : State) (done states : List State) → put_states (done ++ s ∷ []) states ≡ put_state s (put_states done states)
put_last s [] states = refl
put_last s (t ∷ done) states = put_last s done (put_state t states)

pub one_more : (s : State) (done states a b : List State) → take 17 a ≡ take 17 (put_states done states) → b ≡ put_state s a
    → take 17 b ≡ take 17 (put_states (done ++ s ∷ []) states)
one_more s done states a b h e =
    ap (take 17) e ∙ sym (first_of_all 17 (s ∷ []) a) ∙ ap (λ z. take 17 (put_state s z)) h ∙ first_of_all 17 (s ∷ []) (put_states done states)
    ∙ ap (take 17) (sym (put_last s done states))

pub no_more : (s : State) (done states a : List State) → take 17 a ≡ take 17 (put_states done states) → nat_lt 16 (length a) ≡ true
    → take 17 a ≡ take 17 (put_states (done ++ s ∷ []) states)
no_more s done states a h m =
    let above = ltb-true 16 (length a) m in
    sym (put_first 17 s a (omega (arith, above))) ∙ one_more s done states a (put_state s a) h refl

-- lists with the same first states
pub with_alike : (ss ts : List State) (w : Walk) → take 17 ss ≡ take 17 ts → counted (with_states ss w) ≡ counted (with_states ts w)
unfolding counted
with_alike ss ts w h = ap (λ z. with_states z w) h

-- walks that are equal
pub counted_found : {T E : Type 0} (r : Result T E) (w a : Walk) → OnOk r (w ≡ a) → OnOk r (counted w ≡ counted a)
counted_found (Ok x) w a h = ap counted h
counted_found (Err e) w a h = h

-- or have equal counted states
pub alike_found : {T E : Type 0} (r : Result T E) (w a b : Walk) → OnOk r (w ≡ a) → counted a ≡ counted b → OnOk r (counted w ≡ counted b)
alike_found (Ok x) w a b h e = ap counted h ∙ e
alike_found (Err x) w a b h e = h

-- a walk beside states that were set aside
module _ (aside : List State) where
  abbrev pub beside : Walk → Walk
  beside w = if w.over then w else joined w.going (with_states aside w)

  over_stays : (w : Walk) → w.over ≡ true → beside w ≡ w
  over_stays w e = ap (λ b. if b then w else joined w.going (with_states aside w)) e

  all_beside : (w : Walk) → w.over ≡ false → beside w ≡ with_states (put_states aside w.going) w
  all_beside w e = ap (λ b. if b then w else joined w.going (with_states aside w)) e
      ∙ ap (λ b. if b then with_states aside w else with_states (put_states aside w.going) w) e

  first_beside : (w : Walk) → w.over ≡ false → counted (beside w) ≡ counted (with_states (put_states aside (counted w).going) w)
  unfolding counted
  first_beside w e = ap counted (all_beside w e) ∙ ap (λ z. with_states z w) (sym (first_of_all 17 aside w.going))

  pub beside_alike : (v w : Walk) → counted v ≡ counted w → counted (beside v) ≡ counted (beside w)
  unfolding counted
  beside_alike v w h =
      let o : v.over ≡ w.over = ap (λ (z : Walk). z.over) h in
      ⊎_elim
      (λ (e : w.over ≡ true). ap counted (over_stays v (o ∙ e)) ∙ h ∙ sym (ap counted (over_stays w e)))
      (λ (e : w.over ≡ false).
      first_beside v (o ∙ e) ∙ ap (λ z. counted (with_states (put_states aside z.going) z)) h ∙ sym (first_beside w e))
      (cases_Bool w.over)

-- the first states show whether there are too many
many_counted : (ss : List State) → too_many (take 17 ss) ≡ too_many ss
unfolding too_many
many_counted ss =
    ⊎_elim
    (λ (h : 16 < length ss).
    let e = length-take-le 17 ss (omega arith) in
    let f : nat_lt 16 (length (take 17 ss)) ≡ true = rw e refl in
    let g : nat_lt 16 (length ss) ≡ true = grind (arith, nat_tests) in
    rw (f, g) refl)
    (λ (h : length ss ≤ 16). ap (λ z. nat_lt 16 (length z) || list_any is_large z) (take_all 17 ss (omega arith)))
    (cases_lt 16 (length ss))

few_are_all : (ss : List State) → too_many ss ≡ false → take 17 ss ≡ ss
unfolding too_many
few_are_all ss h =
    ⊎_elim
    (λ (l : 16 < length ss).
    let g : nat_lt 16 (length ss) ≡ true = grind (arith, nat_tests) in
    absurd (true≢false (sym (ap (λ b. b || list_any is_large ss) g) ∙ h)))
    (λ (l : length ss ≤ 16). take_all 17 ss (omega arith))
    (cases_lt 16 (length ss))

few_counted : (line word : ℕ) (w : Walk) → few line word (counted w) ≡ few line word w
unfolding counted few
few_counted line word w =
    ⊎_elim
    (λ (h : too_many w.going ≡ true). let g = many_counted w.going ∙ h in rw (g, h) refl)
    (λ (h : too_many w.going ≡ false).
    let g = many_counted w.going ∙ h in rw (g, h) (ap (λ z. with_states z w) (few_are_all w.going h)))
    (cases_Bool (too_many w.going))

-- and so for walks with equal counted states
few_alike : (line word : ℕ) (v w : Walk) → counted v ≡ counted w → few line word v ≡ few line word w
few_alike line word v w h = sym (few_counted line word v) ∙ ap (few line word) h ∙ few_counted line word w

pub few_found : {T E : Type 0} (r : Result T E) (line word : ℕ) (x v w : Walk) → OnOk r (x ≡ few line word v) → counted v ≡ counted w
    → OnOk r (x ≡ few line word w)
few_found (Ok y) line word x v w h e = h ∙ few_alike line word v w e
few_found (Err e) line word x v w h k = h
