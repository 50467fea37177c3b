-- If there are not too many states, neither are there of fewer; states that wait for others.
use Rattle.std.proofs.Common.{◌≡◌, ◌≤◌, ◌<◌, ℕ, true, false, Bool, List, [], ◌∷◌, ◌++◌, length, refl, ap, sym, ◌∙◌, inl, inr, ⊎_elim, arith, subst}
use Rattle.std.specs.Prelude.{if◌then◌else◌, ◌||◌, nat_lt, filter}
use Rattle.std.specs.List.{list_any}
use Rattle.std.proofs.lemmas.Bool.{cases_Bool, cases_lt, true≢false}
use Rattle.std.proofs.lemmas.Bool.Decides.{nat_tests}
use Rattle.std.proofs.lemmas.List.{length-append}
use Rattle.mlk_names.specs.Lists.{Among}
use Rattle.mlk_syntax.specs.ExprTrees.{Tree}
use Rattle.mlk_text.specs.declared.code.Code.TheVariants.{TooManyCases}
use Rattle.mlk_walk_state.specs.declared.state.State.{State}
use Rattle.mlk_walk_state.specs.Symbols.{truth_in}
use Rattle.mlk_walk_state.specs.Scope.{Scope}
use Rattle.mlk_walk_exprs.specs.declared.walk.Walk.{Walk}
use Rattle.mlk_walk_exprs.specs.Walks.{put_states, with_states, is_large, too_many, few, overfull, joined}
use Rattle.mlk_walk_exprs.specs.Expressions.{agrees, where_it_may_be, by_condition}
use Rattle.mlk_walk_laws.specs.Fewer.{StatesDiffer, IsClean, IsPart}
use Rattle.mlk_walk_laws.proofs.Lists.{in_front, in_back, in_either, all_old, all_new, all_from, all_distinct}
use Rattle.mlk_walk_laws.proofs.Transfers.{Keeps, Tells, clean_without, part_with, not_empty, Added, added_none, added_with, added_both, added_if}

-- a list at one of its items
pub record Cut (s : State) (ss : List State) : Type 0 where
  pub before : List State
  pub after : List State
  pub is : ss ≡ before ++ s ∷ after

cut_at : (s : State) (ss : List State) → Among s ss → Cut s ss
cut_at s [] h = absurd h
cut_at s (t ∷ ss) (inl e) = record { before = []; after = ss; is = rw e refl }
cut_at s (t ∷ ss) (inr h) = let c = cut_at s ss h in record { before = t ∷ c.before; after = c.after; is = ap (λ z. t ∷ z) c.is }

beside : (s t : State) (xs ys : List State) → (s ≡ t → ⊥) → Among t (xs ++ s ∷ ys) → Among t (xs ++ ys)
beside s t xs ys k h =
    ⊎_elim (λ (l : Among t xs). in_front t xs ys l)
    (λ (r : Among t (s ∷ ys)). ⊎_elim (λ (e : t ≡ s). absurd (k (sym e))) (λ (m : Among t ys). in_back t xs ys m) r)
    (in_either t xs (s ∷ ys) h)

-- distinct states that are all among others are no more than those
no_more : (ss ts : List State) → StatesDiffer ss → ((s : State) → Among s ss → Among s ts) → length ss ≤ length ts
no_more [] ts d more = omega arith
no_more (s ∷ ss) ts d more =
    let c = cut_at s ts (more s (inl refl)) in
    let less = no_more ss (c.before ++ c.after) d.1 (λ t i.
    beside s t c.before c.after (λ e. d.0 (subst (λ z. Among z ss) (sym e) i)) (subst (Among t) c.is (more t (inr i)))) in
    let a = length-append c.before c.after in
    let b = length-append c.before (s ∷ c.after) in
    let size = ap length c.is in
    omega (arith, less, a, b, size)

none_large : (s : State) (ss : List State) → list_any is_large ss ≡ false → Among s ss → is_large s ≡ false
none_large s [] h i = absurd i
none_large s (t ∷ ss) h (inl e) =
    ⊎_elim (λ (k : is_large t ≡ true). absurd (true≢false (sym (ap (λ b. b || list_any is_large ss) k) ∙ h)))
    (λ (k : is_large t ≡ false). ap is_large e ∙ k) (cases_Bool (is_large t))
none_large s (t ∷ ss) h (inr i) =
    ⊎_elim (λ (k : is_large t ≡ true). absurd (true≢false (sym (ap (λ b. b || list_any is_large ss) k) ∙ h)))
    (λ (k : is_large t ≡ false). none_large s ss (sym (ap (λ b. b || list_any is_large ss) k) ∙ h) i) (cases_Bool (is_large t))

all_small : (ss : List State) → ((s : State) → Among s ss → is_large s ≡ false) → list_any is_large ss ≡ false
all_small [] h = refl
all_small (s ∷ ss) h = ap (λ b. b || list_any is_large ss) (h s (inl refl)) ∙ all_small ss (λ t i. h t (inr i))

few_of_few : (ss ts : List State) → StatesDiffer ss → ((s : State) → Among s ss → Among s ts) → too_many ts ≡ false → too_many ss ≡ false
unfolding too_many
few_of_few ss ts d more h =
    let less = no_more ss ts d more in
    ⊎_elim
    (λ (l : 16 < length ts). let g : nat_lt 16 (length ts) ≡ true = grind (arith, nat_tests) in absurd (true≢false (sym (ap (λ b. b || list_any is_large ts) g) ∙ h)))
    (λ (l : length ts ≤ 16).
    let g : nat_lt 16 (length ts) ≡ false = grind (arith, nat_tests) in
    let k : nat_lt 16 (length ss) ≡ false = grind (arith, nat_tests, less) in
    let small : list_any is_large ts ≡ false = sym (ap (λ b. b || list_any is_large ts) g) ∙ h in
    ap (λ b. b || list_any is_large ss) k ∙ all_small ss (λ s i. none_large s ts small (more s i)))
    (cases_lt 16 (length ts))

pub few_clean : (line word : ℕ) (w : Walk) → IsClean (few line word w) → (too_many w.going ≡ false) × IsClean w
unfolding few
few_clean line word w h =
    ⊎_elim
    (λ (e : too_many w.going ≡ true). let k : IsClean (overfull line word w) = (rw e at h) in absurd (true≢false k.goes_on))
    (λ (e : too_many w.going ≡ false). (e, (rw e at h)))
    (cases_Bool (too_many w.going))

pub few_same : (line word : ℕ) (w : Walk) → too_many w.going ≡ false → few line word w ≡ w
unfolding few
few_same line word w e = rw e refl

few_apart : (line word : ℕ) (w : Walk) → StatesDiffer w.going → StatesDiffer (few line word w).going
unfolding few
few_apart line word w d =
    ⊎_elim (λ (e : too_many w.going ≡ true). rw e tt) (λ (e : too_many w.going ≡ false). rw e d) (cases_Bool (too_many w.going))

few_tells : (line word : ℕ) (w : Walk) → Tells w → Tells (few line word w)
unfolding few
few_tells line word w t =
    ⊎_elim
    (λ (e : too_many w.going ≡ true). rw e (λ o h. not_empty w.faults (record { line = line; column = word; code = TooManyCases }) h))
    (λ (e : too_many w.going ≡ false). rw e t) (cases_Bool (too_many w.going))

few_adds : (line word : ℕ) (w : Walk) → Added w (few line word w)
unfolding few
few_adds line word w = added_if (too_many w.going) w (overfull line word w) w (record { skips = λ c h. h; quits = λ q h. h }) (record { skips = λ c h. h; quits = λ q h. h })

pub few_keeps : (line word : ℕ) → Keeps (few line word)
few_keeps line word = record {
  adds = few_adds line word;
  back = λ w h. (few_clean line word w h).1;
  apart = few_apart line word;
  tells = few_tells line word;
  part = λ v w i h.
      let c = few_clean line word w h in
      let a = few_same line word w c.0 in
      let b = few_same line word v (few_of_few v.going w.going i.distinct i.going c.0) in
      rw (a, b) i;
}

-- the result of a walk, beside states that waited
pub beside_others : (ss ts : List State) (v w : Walk) → IsPart v w → ((s : State) → Among s ss → Among s ts) → StatesDiffer ss
    → IsPart (with_states (put_states v.going ss) v) (with_states (put_states w.going ts) w)
beside_others ss ts v w i more d = part_with v w (put_states v.going ss) (put_states w.going ts) i
    (λ s r. ⊎_elim (λ (l : Among s ss). all_old s w.going ts (more s l)) (λ (m : Among s v.going). all_new s w.going ts (i.going s m)) (all_from s v.going ss r))
    (all_distinct v.going ss d)

pub joined_adds : (ss : List State) (w : Walk) → Added w (joined ss w)
joined_adds ss w = added_if w.over w w (with_states (put_states w.going ss) w) (record { skips = λ c h. h; quits = λ q h. h }) (added_none w (put_states w.going ss))

pub joined_clean : (ss : List State) (w : Walk) → IsClean (joined ss w) → IsClean w
joined_clean ss w h =
    ⊎_elim (λ (e : w.over ≡ true). subst IsClean (ap (λ b. if b then w else with_states (put_states w.going ss) w) e) h)
    (λ (e : w.over ≡ false). clean_without (put_states w.going ss) w (subst IsClean (ap (λ b. if b then w else with_states (put_states w.going ss) w) e) h)) (cases_Bool w.over)

pub joined_same : (ss : List State) (w : Walk) → w.over ≡ false → joined ss w ≡ with_states (put_states w.going ss) w
joined_same ss w e = ap (λ b. if b then w else with_states (put_states w.going ss) w) e

pub joined_apart : (ss : List State) (w : Walk) → StatesDiffer ss → StatesDiffer w.going → StatesDiffer (joined ss w).going
joined_apart ss w d k =
    ⊎_elim (λ (e : w.over ≡ true). subst (λ (z : Walk). StatesDiffer z.going) (sym (ap (λ b. if b then w else with_states (put_states w.going ss) w) e)) k)
    (λ (e : w.over ≡ false). subst (λ (z : Walk). StatesDiffer z.going) (sym (joined_same ss w e)) (all_distinct w.going ss d)) (cases_Bool w.over)

pub joined_tells : (ss : List State) (w : Walk) → Tells w → Tells (joined ss w)
joined_tells ss w t =
    ⊎_elim (λ (e : w.over ≡ true). subst Tells (sym (ap (λ b. if b then w else with_states (put_states w.going ss) w) e)) t)
    (λ (e : w.over ≡ false). subst Tells (sym (joined_same ss w e)) t) (cases_Bool w.over)

pub joined_part : (ss ts : List State) (v w : Walk) → IsPart v w → IsClean w → ((s : State) → Among s ss → Among s ts) → StatesDiffer ss
    → IsPart (joined ss v) (joined ts w)
joined_part ss ts v w i h more d =
    let a = joined_same ss v i.clean.goes_on in
    let b = joined_same ts w h.goes_on in
    rw (a, b) (beside_others ss ts v w i more d)

-- states with a property
pub in_filter : (f : State → Bool) (s : State) (ss : List State) → Among s ss → f s ≡ true → Among s (filter f ss)
in_filter f s [] h k = absurd h
in_filter f s (t ∷ ss) (inl e) k = let g : f t ≡ true = sym (ap f e) ∙ k in rw g (inl e)
in_filter f s (t ∷ ss) (inr h) k =
    ⊎_elim (λ (e : f t ≡ true). rw e (inr (in_filter f s ss h k))) (λ (e : f t ≡ false). rw e (in_filter f s ss h k)) (cases_Bool (f t))

pub from_filter : (f : State → Bool) (s : State) (ss : List State) → Among s (filter f ss) → Among s ss × (f s ≡ true)
from_filter f s [] h = absurd h
from_filter f s (t ∷ ss) h =
    ⊎_elim
    (λ (e : f t ≡ true). let k : Among s (t ∷ filter f ss) = (rw e at h) in
    ⊎_elim (λ (a : s ≡ t). (inl a, ap f a ∙ e)) (λ (r : Among s (filter f ss)). let m = from_filter f s ss r in (inr m.0, m.1)) k)
    (λ (e : f t ≡ false). let m = from_filter f s ss (rw e at h) in (inr m.0, m.1))
    (cases_Bool (f t))

pub filter_distinct : (f : State → Bool) (ss : List State) → StatesDiffer ss → StatesDiffer (filter f ss)
filter_distinct f [] d = tt
filter_distinct f (s ∷ ss) d =
    ⊎_elim (λ (e : f s ≡ true). rw e ((λ r. d.0 (from_filter f s ss r).0), filter_distinct f ss d.1))
    (λ (e : f s ≡ false). rw e (filter_distinct f ss d.1)) (cases_Bool (f s))

pub filter_part : (f : State → Bool) (ss ts : List State) → ((s : State) → Among s ss → Among s ts) → (s : State) → Among s (filter f ss) → Among s (filter f ts)
filter_part f ss ts more s r = let m = from_filter f s ss r in in_filter f s ts (more s m.0) m.1

-- both ways of a condition
module _ (sc : Scope) (t : Tree) (run other : Walk → Walk) (one : Keeps run) (two : Keeps other) where
  abbrev pub true_of : Walk → List State
  true_of w = where_it_may_be true sc t w.going

  abbrev pub false_of : Walk → List State
  false_of w = where_it_may_be false sc t w.going

  abbrev pub first_of : Walk → Walk
  first_of w = run (with_states (true_of w) w)

  abbrev pub second_of : Walk → Walk
  second_of w = other (with_states (false_of w) (first_of w))

  pub ways_same : (w : Walk) → (first_of w).over ≡ false → by_condition sc t run other w ≡ joined (first_of w).going (second_of w)
  ways_same w e = ap (λ b. if b then first_of w else joined (first_of w).going (second_of w)) e

  pub ways_clean : (w : Walk) → IsClean (by_condition sc t run other w) → ((first_of w).over ≡ false) × IsClean (second_of w)
  ways_clean w h =
      ⊎_elim
      (λ (e : (first_of w).over ≡ true).
      let k : IsClean (first_of w) = subst IsClean (ap (λ b. if b then first_of w else joined (first_of w).going (second_of w)) e) h in
      absurd (true≢false (sym e ∙ k.goes_on)))
      (λ (e : (first_of w).over ≡ false). (e, joined_clean (first_of w).going (second_of w) (subst IsClean (ways_same w e) h)))
      (cases_Bool (first_of w).over)

  pub first_clean : (w : Walk) → IsClean (second_of w) → IsClean (first_of w)
  first_clean w h = clean_without (false_of w) (first_of w) (two.back (with_states (false_of w) (first_of w)) h)

  ways_apart : (w : Walk) → StatesDiffer w.going → StatesDiffer (by_condition sc t run other w).going
  ways_apart w d =
      let f = one.apart (with_states (true_of w) w) (filter_distinct (λ s. agrees true (truth_in sc t s)) w.going d) in
      let g = two.apart (with_states (false_of w) (first_of w)) (filter_distinct (λ s. agrees false (truth_in sc t s)) w.going d) in
      ⊎_elim
      (λ (e : (first_of w).over ≡ true).
      subst (λ (z : Walk). StatesDiffer z.going) (sym (ap (λ b. if b then first_of w else joined (first_of w).going (second_of w)) e)) f)
      (λ (e : (first_of w).over ≡ false).
      subst (λ (z : Walk). StatesDiffer z.going) (sym (ways_same w e)) (joined_apart (first_of w).going (second_of w) f g))
      (cases_Bool (first_of w).over)

  ways_tell : (w : Walk) → Tells w → Tells (by_condition sc t run other w)
  ways_tell w h =
      let f = one.tells (with_states (true_of w) w) h in
      let g = two.tells (with_states (false_of w) (first_of w)) f in
      ⊎_elim
      (λ (e : (first_of w).over ≡ true). subst Tells (sym (ap (λ b. if b then first_of w else joined (first_of w).going (second_of w)) e)) f)
      (λ (e : (first_of w).over ≡ false). subst Tells (sym (ways_same w e)) (joined_tells (first_of w).going (second_of w) g))
      (cases_Bool (first_of w).over)

  ways_add : (w : Walk) → Added w (by_condition sc t run other w)
  ways_add w =
      let a : Added w (first_of w) = added_with w (first_of w) (true_of w) (one.adds (with_states (true_of w) w)) in
      let b : Added (first_of w) (second_of w) = added_with (first_of w) (second_of w) (false_of w) (two.adds (with_states (false_of w) (first_of w))) in
      added_if (first_of w).over w (first_of w) (joined (first_of w).going (second_of w)) a
      (added_both w (second_of w) (joined (first_of w).going (second_of w)) (added_both w (first_of w) (second_of w) a b) (joined_adds (first_of w).going (second_of w)))

  pub ways_keep : Keeps (by_condition sc t run other)
  ways_keep = record {
    adds = ways_add;
    back = λ w h. clean_without (true_of w) w (one.back (with_states (true_of w) w) (first_clean w (ways_clean w h).1));
    apart = ways_apart;
    tells = ways_tell;
    part = λ v w i h.
        let c = ways_clean w h in
        let f = first_clean w c.1 in
        let p = one.part (with_states (true_of v) v) (with_states (true_of w) w)
        (part_with v w (true_of v) (true_of w) i (filter_part (λ s. agrees true (truth_in sc t s)) v.going w.going i.going)
        (filter_distinct (λ s. agrees true (truth_in sc t s)) v.going i.distinct)) f in
        let q = two.part (with_states (false_of v) (first_of v)) (with_states (false_of w) (first_of w))
        (part_with (first_of v) (first_of w) (false_of v) (false_of w) p (filter_part (λ s. agrees false (truth_in sc t s)) v.going w.going i.going)
        (filter_distinct (λ s. agrees false (truth_in sc t s)) v.going i.distinct)) c.1 in
        let a = ways_same w c.0 in
        let b = ways_same v p.clean.goes_on in
        subst (λ z. IsPart z (by_condition sc t run other w)) (sym b)
        (subst (IsPart (joined (first_of v).going (second_of v))) (sym a)
        (joined_part (first_of v).going (first_of w).going (second_of v) (second_of w) q c.1 p.going p.distinct));
  }
