-- Transfer functions applied to fewer states.
use Rattle.std.proofs.Common.{◌≡◌, true, false, Bool, List, [], ◌∷◌, ◌++◌, map, refl, ap, sym, ◌∙◌, inl, inr, ⊎_elim, subst, drop}
use Rattle.std.specs.Prelude.{◌⊎◌, flat_map, if◌then◌else◌}
use Rattle.mlk_names.specs.Lists.{Among}
use Rattle.mlk_names.specs.declared.symbol.Sym.{Sym}
use Rattle.mlk_names.specs.declared.symbol.Sym.TheVariants.{Unknown}
use Rattle.mlk_cert_parts.specs.declared.case.Case.{Case}
use Rattle.mlk_syntax.specs.ExprTrees.{Tree}
use Rattle.mlk_walk_state.specs.declared.state.State.{State}
use Rattle.mlk_walk_state.specs.States.{with_symbol}
use Rattle.mlk_walk_state.specs.Scope.{Scope}
use Rattle.mlk_walk_exprs.specs.declared.walk.Walk.{Walk}
use Rattle.mlk_walk_exprs.specs.declared.walk.Quit.{Quit}
use Rattle.mlk_walk_exprs.specs.Walks.{Outcome, Goes, Skips, Quits, Refused, put_states, add, add_all, with_states, each, each_changed}
use Rattle.mlk_walk_exprs.specs.Expressions.{with_symbol_of, capture, capture_unknown}
use Rattle.mlk_walk_laws.specs.Fewer.{StatesDiffer, IsClean, IsPart}
use Rattle.mlk_walk_laws.proofs.Lists.{in_front, in_back, in_either, in_map, from_map, in_flat, from_flat, put_old, put_new, put_from, put_distinct, all_new, all_from, all_distinct}

-- a walk whose line is over has a fault
abbrev pub Tells : Walk → Type 0
Tells w = w.over ≡ true → w.faults ≡ [] → ⊥

-- The walk of a part has a part of the results of the whole, if nothing wrong is found in the whole. Distinct states stay
-- distinct, faults that were found stay, and if the walk of the line is over, a fault says why.
pub record Added (v w : Walk) : Type 0 where
  pub skips : (c : Case) → Among c v.skips → Among c w.skips
  pub quits : (q : Quit) → Among q v.quits → Among q w.quits

pub record Keeps (F : Walk → Walk) : Type 0 where
  pub adds : (w : Walk) → Added w (F w)
  pub back : (w : Walk) → IsClean (F w) → IsClean w
  pub apart : (w : Walk) → StatesDiffer w.going → StatesDiffer (F w).going
  pub tells : (w : Walk) → Tells w → Tells (F w)
  pub part : (v w : Walk) → IsPart v w → IsClean (F w) → IsPart (F v) (F w)

pub added_none : (w : Walk) (ss : List State) → Added w (with_states ss w)
added_none w ss = record { skips = λ c h. h; quits = λ q h. h }

pub added_with : (w v : Walk) (ss : List State) → Added (with_states ss w) v → Added w v
added_with w v ss a = record { skips = a.skips; quits = a.quits }

pub added_both : (u v w : Walk) → Added u v → Added v w → Added u w
added_both u v w a b = record { skips = λ c h. b.skips c (a.skips c h); quits = λ q h. b.quits q (a.quits q h) }

pub added_if : (b : Bool) (u v w : Walk) → Added u v → Added u w → Added u (if b then v else w)
added_if true u v w x y = x
added_if false u v w x y = y

pub both : (F G : Walk → Walk) → Keeps F → Keeps G → Keeps (λ w. G (F w))
both F G f g = record {
  adds = λ w. added_both w (F w) (G (F w)) (f.adds w) (g.adds (F w));
  back = λ w h. f.back w (g.back (F w) h);
  apart = λ w d. g.apart (F w) (f.apart w d);
  tells = λ w t. g.tells (F w) (f.tells w t);
  part = λ v w i h. g.part (F v) (F w) (f.part v w i (g.back (F w) h)) h;
}

pub stays : Keeps (λ w. w)
stays = record { adds = λ w. record { skips = λ c h. h; quits = λ q h. h }; back = λ w h. h; apart = λ w d. d; tells = λ w t. t; part = λ v w i h. i }

-- what holds of a walk whatever its states
pub clean_with : (ss : List State) (w : Walk) → IsClean w → IsClean (with_states ss w)
clean_with ss w h = record { faultless = h.faultless; goes_on = h.goes_on }

pub clean_without : (ss : List State) (w : Walk) → IsClean (with_states ss w) → IsClean w
clean_without ss w h = record { faultless = h.faultless; goes_on = h.goes_on }

pub not_empty : {A : Type 0} (xs : List A) (x : A) → xs ++ x ∷ [] ≡ [] → ⊥
not_empty [] x e = cc e
not_empty (y ∷ xs) x e = cc e

-- outcomes
abbrev pub NotRefused : Outcome → Type 0
NotRefused (Goes s) = Unit {0}
NotRefused (Skips c) = Unit {0}
NotRefused (Quits column c) = Unit {0}
NotRefused (Refused line column code) = ⊥

add_back : (o : Outcome) (w : Walk) → IsClean (add o w) → IsClean w × NotRefused o
add_back (Goes s) w h = (record { faultless = h.faultless; goes_on = h.goes_on }, tt)
add_back (Skips c) w h = (record { faultless = h.faultless; goes_on = h.goes_on }, tt)
add_back (Quits column c) w h = (record { faultless = h.faultless; goes_on = h.goes_on }, tt)
add_back (Refused line column code) w h = absurd (not_empty w.faults (record { line = line; column = column; code = code }) h.faultless)

add_clean : (o : Outcome) (w : Walk) → IsClean w → NotRefused o → IsClean (add o w)
add_clean (Goes s) w h k = record { faultless = h.faultless; goes_on = h.goes_on }
add_clean (Skips c) w h k = record { faultless = h.faultless; goes_on = h.goes_on }
add_clean (Quits column c) w h k = record { faultless = h.faultless; goes_on = h.goes_on }
add_clean (Refused line column code) w h k = absurd k

pub all_back : (os : List Outcome) (w : Walk) → IsClean (add_all os w) → IsClean w × ((o : Outcome) → Among o os → NotRefused o)
all_back [] w h = (h, λ o i. absurd i)
all_back (o ∷ os) w h =
    let t = all_back os (add o w) h in
    let u = add_back o w t.0 in
    (u.0, λ p i. ⊎_elim (λ (e : p ≡ o). subst NotRefused (sym e) u.1) (λ (r : Among p os). t.1 p r) i)

pub all_clean : (os : List Outcome) (w : Walk) → IsClean w → ((o : Outcome) → Among o os → NotRefused o) → IsClean (add_all os w)
all_clean [] w h k = h
all_clean (o ∷ os) w h k = all_clean os (add o w) (add_clean o w h (k o (inl refl))) (λ p i. k p (inr i))

-- the states that continue
going_kept : (o : Outcome) (w : Walk) (s : State) → Among s w.going → Among s (add o w).going
going_kept (Goes t) w s h = put_old s t w.going h
going_kept (Skips c) w s h = h
going_kept (Quits column c) w s h = h
going_kept (Refused line column code) w s h = h

going_old : (os : List Outcome) (w : Walk) (s : State) → Among s w.going → Among s (add_all os w).going
going_old [] w s h = h
going_old (o ∷ os) w s h = going_old os (add o w) s (going_kept o w s h)

pub going_new : (os : List Outcome) (w : Walk) (s : State) → Among (Goes s) os → Among s (add_all os w).going
going_new [] w s h = absurd h
going_new (o ∷ os) w s (inl e) = going_old os (add o w) s (subst (λ z. Among s (add z w).going) e (put_new s w.going))
going_new (o ∷ os) w s (inr h) = going_new os (add o w) s h

going_made : (o : Outcome) (w : Walk) (s : State) → Among s (add o w).going → Among s w.going ⊎ (Goes s ≡ o)
going_made (Goes t) w s h = ⊎_elim (λ (l : Among s w.going). inl l) (λ (e : s ≡ t). inr (ap Goes e)) (put_from s t w.going h)
going_made (Skips c) w s h = inl h
going_made (Quits column c) w s h = inl h
going_made (Refused line column code) w s h = inl h

pub going_from : (os : List Outcome) (w : Walk) (s : State) → Among s (add_all os w).going → Among s w.going ⊎ Among (Goes s) os
going_from [] w s h = inl h
going_from (o ∷ os) w s h =
    ⊎_elim
    (λ (l : Among s (add o w).going). ⊎_elim (λ (m : Among s w.going). inl m) (λ (e : Goes s ≡ o). inr (inl e)) (going_made o w s l))
    (λ (r : Among (Goes s) os). inr (inr r)) (going_from os (add o w) s h)

going_distinct : (os : List Outcome) (w : Walk) → StatesDiffer w.going → StatesDiffer (add_all os w).going
going_distinct [] w d = d
going_distinct (Goes s ∷ os) w d = going_distinct os (add (Goes s) w) (put_distinct s w.going d)
going_distinct (Skips c ∷ os) w d = going_distinct os (add (Skips c) w) d
going_distinct (Quits column c ∷ os) w d = going_distinct os (add (Quits column c) w) d
going_distinct (Refused line column code ∷ os) w d = going_distinct os (add (Refused line column code) w) d

-- the cases that skipped
skips_kept : (o : Outcome) (w : Walk) (c : Case) → Among c w.skips → Among c (add o w).skips
skips_kept (Goes t) w c h = h
skips_kept (Skips d) w c h = in_front c w.skips (d ∷ []) h
skips_kept (Quits column d) w c h = h
skips_kept (Refused line column code) w c h = h

pub skips_old : (os : List Outcome) (w : Walk) (c : Case) → Among c w.skips → Among c (add_all os w).skips
skips_old [] w c h = h
skips_old (o ∷ os) w c h = skips_old os (add o w) c (skips_kept o w c h)

pub skips_new : (os : List Outcome) (w : Walk) (c : Case) → Among (Skips c) os → Among c (add_all os w).skips
skips_new [] w c h = absurd h
skips_new (o ∷ os) w c (inl e) = skips_old os (add o w) c (subst (λ z. Among c (add z w).skips) e (in_back c w.skips (c ∷ []) (inl refl)))
skips_new (o ∷ os) w c (inr h) = skips_new os (add o w) c h

one_case : (c d : Case) → Among c (d ∷ []) → c ≡ d
one_case c d (inl e) = e
one_case c d (inr h) = absurd h

skips_made : (o : Outcome) (w : Walk) (c : Case) → Among c (add o w).skips → Among c w.skips ⊎ (Skips c ≡ o)
skips_made (Goes t) w c h = inl h
skips_made (Skips d) w c h =
    ⊎_elim (λ (l : Among c w.skips). inl l) (λ (r : Among c (d ∷ [])). inr (ap Skips (one_case c d r))) (in_either c w.skips (d ∷ []) h)
skips_made (Quits column d) w c h = inl h
skips_made (Refused line column code) w c h = inl h

pub skips_from : (os : List Outcome) (w : Walk) (c : Case) → Among c (add_all os w).skips → Among c w.skips ⊎ Among (Skips c) os
skips_from [] w c h = inl h
skips_from (o ∷ os) w c h =
    ⊎_elim
    (λ (l : Among c (add o w).skips). ⊎_elim (λ (m : Among c w.skips). inl m) (λ (e : Skips c ≡ o). inr (inl e)) (skips_made o w c l))
    (λ (r : Among (Skips c) os). inr (inr r)) (skips_from os (add o w) c h)

-- the cases that quit
abbrev pub quit_at : Quit → Outcome
quit_at q = Quits q.column q.case

quits_kept : (o : Outcome) (w : Walk) (q : Quit) → Among q w.quits → Among q (add o w).quits
quits_kept (Goes t) w q h = h
quits_kept (Skips d) w q h = h
quits_kept (Quits column d) w q h = in_front q w.quits (record { column = column; case = d } ∷ []) h
quits_kept (Refused line column code) w q h = h

pub quits_old : (os : List Outcome) (w : Walk) (q : Quit) → Among q w.quits → Among q (add_all os w).quits
quits_old [] w q h = h
quits_old (o ∷ os) w q h = quits_old os (add o w) q (quits_kept o w q h)

pub quits_new : (os : List Outcome) (w : Walk) (q : Quit) → Among (quit_at q) os → Among q (add_all os w).quits
quits_new [] w q h = absurd h
quits_new (o ∷ os) w q (inl e) = quits_old os (add o w) q (subst (λ z. Among q (add z w).quits) e (in_back q w.quits (q ∷ []) (inl refl)))
quits_new (o ∷ os) w q (inr h) = quits_new os (add o w) q h

one_quit : (q r : Quit) → Among q (r ∷ []) → q ≡ r
one_quit q r (inl e) = e
one_quit q r (inr h) = absurd h

quits_made : (o : Outcome) (w : Walk) (q : Quit) → Among q (add o w).quits → Among q w.quits ⊎ (quit_at q ≡ o)
quits_made (Goes t) w q h = inl h
quits_made (Skips d) w q h = inl h
quits_made (Quits column d) w q h =
    ⊎_elim (λ (l : Among q w.quits). inl l) (λ (r : Among q (record { column = column; case = d } ∷ [])). inr (ap quit_at (one_quit q (record { column = column; case = d }) r)))
    (in_either q w.quits (record { column = column; case = d } ∷ []) h)
quits_made (Refused line column code) w q h = inl h

pub quits_from : (os : List Outcome) (w : Walk) (q : Quit) → Among q (add_all os w).quits → Among q w.quits ⊎ Among (quit_at q) os
quits_from [] w q h = inl h
quits_from (o ∷ os) w q h =
    ⊎_elim
    (λ (l : Among q (add o w).quits). ⊎_elim (λ (m : Among q w.quits). inl m) (λ (e : quit_at q ≡ o). inr (inl e)) (quits_made o w q l))
    (λ (r : Among (quit_at q) os). inr (inr r)) (quits_from os (add o w) q h)

-- faults stay
fault_back : (o : Outcome) (w : Walk) → (add o w).faults ≡ [] → w.faults ≡ []
fault_back (Goes s) w h = h
fault_back (Skips c) w h = h
fault_back (Quits column c) w h = h
fault_back (Refused line column code) w h = absurd (not_empty w.faults (record { line = line; column = column; code = code }) h)

faults_back : (os : List Outcome) (w : Walk) → (add_all os w).faults ≡ [] → w.faults ≡ []
faults_back [] w h = h
faults_back (o ∷ os) w h = fault_back o w (faults_back os (add o w) h)

over_same : (os : List Outcome) (w : Walk) → (add_all os w).over ≡ w.over
over_same [] w = refl
over_same (Goes s ∷ os) w = over_same os (add (Goes s) w)
over_same (Skips c ∷ os) w = over_same os (add (Skips c) w)
over_same (Quits column c ∷ os) w = over_same os (add (Quits column c) w)
over_same (Refused line column code ∷ os) w = over_same os (add (Refused line column code) w)

-- a transfer function, at each state
no_old : {X : Type 0} → ⊥ ⊎ X → X
no_old (inl h) = absurd h
no_old (inr x) = x

pub each_keeps : (row : State → List Outcome) → Keeps (each row)
each_keeps row = record {
  adds = λ w. record { skips = skips_old (flat_map row w.going) (with_states [] w); quits = quits_old (flat_map row w.going) (with_states [] w) };
  back = λ w h. clean_without [] w (all_back (flat_map row w.going) (with_states [] w) h).0;
  apart = λ w d. going_distinct (flat_map row w.going) (with_states [] w) tt;
  tells = λ w t e h. t (sym (over_same (flat_map row w.going) (with_states [] w)) ∙ e) (faults_back (flat_map row w.going) (with_states [] w) h);
  part = λ v w i h.
      let t = all_back (flat_map row w.going) (with_states [] w) h in
      let os = flat_map row v.going in
      let more : (o : Outcome) → Among o os → Among o (flat_map row w.going) = λ o r. (let f = from_flat row o v.going r in in_flat row f.0 o w.going (i.going f.0 f.1) f.2) in
      record {
        clean = all_clean os (with_states [] v) (clean_with [] v i.clean) (λ o r. t.1 o (more o r));
        going = λ s r. going_new (flat_map row w.going) (with_states [] w) s (more (Goes s) (no_old (going_from os (with_states [] v) s r)));
        skips = λ c r. ⊎_elim (λ (l : Among c v.skips). skips_old (flat_map row w.going) (with_states [] w) c (i.skips c l))
            (λ (m : Among (Skips c) os). skips_new (flat_map row w.going) (with_states [] w) c (more (Skips c) m)) (skips_from os (with_states [] v) c r);
        quits = λ q r. ⊎_elim (λ (l : Among q v.quits). quits_old (flat_map row w.going) (with_states [] w) q (i.quits q l))
            (λ (m : Among (quit_at q) os). quits_new (flat_map row w.going) (with_states [] w) q (more (quit_at q) m)) (quits_from os (with_states [] v) q r);
        distinct = going_distinct os (with_states [] v) tt;
      };
}

-- other states instead of those that continue
pub part_with : (v w : Walk) (ss ts : List State) → IsPart v w → ((s : State) → Among s ss → Among s ts) → StatesDiffer ss
    → IsPart (with_states ss v) (with_states ts w)
part_with v w ss ts i more d = record {
  clean = clean_with ss v i.clean;
  going = more;
  skips = i.skips;
  quits = i.quits;
  distinct = d;
}

pub changed_keeps : (change : State → State) → Keeps (each_changed change)
changed_keeps change = record {
  adds = λ w. added_none w (put_states (map change w.going) []);
  back = λ w h. clean_without (put_states (map change w.going) []) w h;
  apart = λ w d. all_distinct (map change w.going) [] tt;
  tells = λ w t. t;
  part = λ v w i h. part_with v w (put_states (map change v.going) []) (put_states (map change w.going) []) i
      (λ s r. let m = from_map change s v.going (no_old (all_from s (map change v.going) [] r)) in
      all_new s (map change w.going) [] (subst (λ z. Among z (map change w.going)) (sym m.2) (in_map change m.0 w.going (i.going m.0 m.1))))
      (all_distinct (map change v.going) [] tt);
}

map_distinct : (f : State → State) → ((s t : State) → f s ≡ f t → s ≡ t) → (ss : List State) → StatesDiffer ss → StatesDiffer (map f ss)
map_distinct f one [] d = tt
map_distinct f one (s ∷ ss) d =
    ((λ r. let m = from_map f (f s) ss r in d.0 (subst (λ z. Among z ss) (sym (one s m.0 m.2)) m.1)), map_distinct f one ss d.1)

pub mapped_keeps : (f : State → State) → ((s t : State) → f s ≡ f t → s ≡ t) → Keeps (λ w. with_states (map f w.going) w)
mapped_keeps f one = record {
  adds = λ w. added_none w (map f w.going);
  back = λ w h. clean_without (map f w.going) w h;
  apart = λ w d. map_distinct f one w.going d;
  tells = λ w t. t;
  part = λ v w i h. part_with v w (map f v.going) (map f w.going) i
      (λ s r. let m = from_map f s v.going r in subst (λ z. Among z (map f w.going)) (sym m.2) (in_map f m.0 w.going (i.going m.0 m.1)))
      (map_distinct f one v.going i.distinct);
}

-- with one more captured symbol, distinct states stay distinct
front_of : {A : Type 0} (xs ys : List A) (x y : A) → xs ++ x ∷ [] ≡ ys ++ y ∷ [] → xs ≡ ys
front_of [] [] x y e = refl
front_of [] (b ∷ ys) x y e = absurd (not_empty ys y (sym (ap (drop 1) e)))
front_of (a ∷ xs) [] x y e = absurd (not_empty xs x (ap (drop 1) e))
front_of (a ∷ xs) (b ∷ ys) x y e =
    let t = front_of xs ys x y (ap (drop 1) e) in
    let h : a ≡ b = cc e in
    rw (h, t) refl

symbol_apart : (s t : State) (x y : Sym) → with_symbol x s ≡ with_symbol y t → s ≡ t
symbol_apart s t x y e =
    let c = ap (λ (z : State). z.case) e in
    let k = front_of s.captured t.captured x y (ap (λ (z : State). z.captured) e) in
    ap (λ z. record s { case = z }) c ∙ ap (λ z. record t { captured = z }) k

pub capture_keeps : (sc : Scope) (t : Tree) → Keeps (capture sc t)
capture_keeps sc t = mapped_keeps (with_symbol_of sc t) (λ s u e. symbol_apart s u _ _ e)

pub unknown_keeps : Keeps capture_unknown
unknown_keeps = mapped_keeps (with_symbol Unknown) (λ s u e. symbol_apart s u Unknown Unknown e)
