-- Lists of waiting states, gathered one after another.
use Rattle.std.proofs.Common.{◌≡◌, true, false, List, [], ◌∷◌, ◌++◌, refl, ap, sym, subst, ◌∙◌, ⊎_elim}
use Rattle.std.specs.Prelude.{if◌then◌else◌, ◌||◌}
use Rattle.std.specs.List.{list_any}
use Rattle.std.proofs.lemmas.Bool.{cases_Bool, false≢true}
use Rattle.mlk_walk_state.specs.declared.state.State.{State}
use Rattle.mlk_walk_state.specs.States.{same_state}
use Rattle.mlk_walk_state.proofs.CaseTests.{same_decides}
use Rattle.mlk_walk_exprs.specs.declared.walk.Walk.{Walk}
use Rattle.mlk_walk_exprs.specs.Walks.{put_state, put_states, with_states, joined, joins}
use Rattle.mlk_walk_exprs.specs.Gathered.{in_turn, gathered}

pub same_is : (s t : State) → same_state s t ≡ true → s ≡ t
same_is s t h = (same_decides.states s t).0 h

same_self : (s : State) → same_state s s ≡ true
same_self s = (same_decides.states s s).1 refl

-- a state that is there stays there
there_at_end : (s t : State) (ss : List State) → list_any (same_state s) ss ≡ true → list_any (same_state s) (ss ++ t ∷ []) ≡ true
there_at_end s t [] h = absurd (false≢true h)
there_at_end s t (u ∷ ss) h =
    ⊎_elim (λ (e : same_state s u ≡ true). rw e refl)
    (λ (e : same_state s u ≡ false). rw e (there_at_end s t ss (sym (ap (λ b. b || list_any (same_state s) ss) e) ∙ h))) (cases_Bool (same_state s u))

last_is_there : (s : State) (ss : List State) → list_any (same_state s) (ss ++ s ∷ []) ≡ true
last_is_there s [] = rw (same_self s) refl
last_is_there s (u ∷ ss) =
    ⊎_elim (λ (e : same_state s u ≡ true). rw e refl) (λ (e : same_state s u ≡ false). rw e (last_is_there s ss)) (cases_Bool (same_state s u))

put_keeps : (s t : State) (ss : List State) → list_any (same_state s) ss ≡ true → list_any (same_state s) (put_state t ss) ≡ true
put_keeps s t ss h =
    ⊎_elim (λ (e : list_any (same_state t) ss ≡ true). rw e h) (λ (e : list_any (same_state t) ss ≡ false). rw e (there_at_end s t ss h)) (cases_Bool (list_any (same_state t) ss))

all_keep : (s : State) (new ss : List State) → list_any (same_state s) ss ≡ true → list_any (same_state s) (put_states new ss) ≡ true
all_keep s [] ss h = h
all_keep s (t ∷ new) ss h = all_keep s new (put_state t ss) (put_keeps s t ss h)

put_is_there : (s : State) (ss : List State) → list_any (same_state s) (put_state s ss) ≡ true
put_is_there s ss =
    ⊎_elim (λ (e : list_any (same_state s) ss ≡ true). rw e e) (λ (e : list_any (same_state s) ss ≡ false). rw e (last_is_there s ss)) (cases_Bool (list_any (same_state s) ss))

all_are_there : (s : State) (new ss : List State) → list_any (same_state s) new ≡ true → list_any (same_state s) (put_states new ss) ≡ true
all_are_there s [] ss h = absurd (false≢true h)
all_are_there s (t ∷ new) ss h =
    ⊎_elim
    (λ (e : same_state s t ≡ true). all_keep s new (put_state t ss) (subst (λ z. list_any (same_state s) (put_state z ss) ≡ true) (same_is s t e) (put_is_there s ss)))
    (λ (e : same_state s t ≡ false). all_are_there s new (put_state t ss) (sym (ap (λ b. b || list_any (same_state s) new) e) ∙ h))
    (cases_Bool (same_state s t))

pub one_after : (s : State) (new ss : List State) → put_states (new ++ s ∷ []) ss ≡ put_state s (put_states new ss)
one_after s [] ss = refl
one_after s (t ∷ new) ss = one_after s new (put_state t ss)

put_after : (s : State) (new ss : List State) → put_states (put_state s new) ss ≡ put_state s (put_states new ss)
put_after s new ss =
    ⊎_elim
    (λ (e : list_any (same_state s) new ≡ true). let f = all_are_there s new ss e in rw (e, f) refl)
    (λ (e : list_any (same_state s) new ≡ false). ap (λ b. put_states (if b then new else new ++ s ∷ []) ss) e ∙ one_after s new ss)
    (cases_Bool (list_any (same_state s) new))

-- adding lists one after another
all_after : (last new ss : List State) → put_states (put_states last new) ss ≡ put_states last (put_states new ss)
all_after [] new ss = refl
all_after (s ∷ last) new ss = all_after last (put_state s new) ss ∙ ap (put_states last) (put_after s new ss)

turns_after : (others : List (List State)) (new ss : List State) → put_states (in_turn new others) ss ≡ in_turn (put_states new ss) others
turns_after [] new ss = refl
turns_after (more ∷ others) new ss =
    turns_after others (put_states more new) ss ∙ ap (λ z. in_turn z others) (all_after more new ss)

gather_one : (first : List State) (waiting : List (List State)) (going : List State) → put_states (gathered waiting going) first ≡ gathered (first ∷ waiting) going
gather_one first [] going = refl
gather_one first (ss ∷ others) going =
    all_after going (in_turn ss others) first ∙ ap (put_states going) (turns_after others ss first)

-- the waiting states are joined at once
pub joins_gather : (waiting : List (List State)) (w : Walk) → w.over ≡ false → joins waiting w ≡ with_states (gathered waiting w.going) w
joins_gather [] w e = refl
joins_gather (first ∷ waiting) w e =
    ap (joined first) (joins_gather waiting w e)
    ∙ ap (λ b. if b then with_states (gathered waiting w.going) w else with_states (put_states (gathered waiting w.going) first) w) e
    ∙ ap (λ z. with_states z w) (gather_one first waiting w.going)
