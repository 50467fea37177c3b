-- Blocks: their begin, and their end.
use Rattle.std.proofs.Common.{◌≡◌, ℕ, suc, ◌+◌, ◌<◌, ◌≤◌, Bool, true, false, List, [], ◌∷◌, ◌++◌, Some, None, refl, sym, ap, ◌∙◌, subst, arith, ⊎_elim}
use Rattle.std.specs.Prelude.{◌||◌, ◌&&◌, ◌⊎◌, ◌==◌, not, filter}
use Rattle.std.specs.List.{list_any, AllZip}
use Rattle.std.proofs.lemmas.Bool.{cases_Bool, or_cases, or_parts, or_left, or_right, and_parts, and_from, eq-eqb, eqb-true, ne_eqb}
use Rattle.mlk_cert_lexemes.specs.Lists.{Each}
use Rattle.mlk_names.specs.declared.term.LockTerm.{LockTerm}
use Rattle.mlk_cert_parts.specs.declared.names.NameSet.{NameSet}
use Rattle.mlk_cert_parts.specs.declared.names.Own.{Own}
use Rattle.mlk_cert_parts.specs.declared.case.Case.{Case}
use Rattle.mlk_cert_parts.specs.declared.case.Test.{Test}
use Rattle.mlk_machine_jobs.specs.Bindings.{Cell, Cells, look, forgotten}
use Rattle.mlk_machine_jobs.specs.Tasks.{Job}
use Rattle.mlk_walk_state.specs.Names.{has, have, is_own, is_among}
use Rattle.mlk_walk_state.specs.Cases.{last_saved, before_last}
use Rattle.mlk_walk_state.specs.Scope.{Scope}
use Rattle.mlk_walk_state.specs.Terms.{mention}
use Rattle.mlk_machine_laws.specs.Sharing.{is_lent}
use Rattle.mlk_machine_laws.proofs.Sharing.{lent_behind}
use Rattle.mlk_machine_laws.proofs.Tidy.{below_look}
use Rattle.mlk_machine_laws.proofs.Outside.{not_forgotten}
use Rattle.mlk_soundness_machine.specs.Frames.{Agrees}
use Rattle.mlk_soundness_machine.specs.Reads.{now, mentions}
use Rattle.mlk_soundness_machine.specs.Described.{World, Level, Guarded, Nested, own_at, IsWorld, bare, Stands}
use Rattle.mlk_soundness_machine.proofs.Sharing.{SharesByOwn}
use Rattle.mlk_soundness_machine.proofs.Reading.{differs, mentioned_such, times_same}
use Rattle.mlk_soundness_machine.proofs.Worlds.{guarded_map, guarded_both, look_past, waiting_kept}
use Rattle.mlk_soundness_machine.proofs.Calling.{old_cells, nested_more, own_of}

-- own names by their levels
own_level : (own : List Own) (n : List ℕ) → is_own own n ≡ true → (l : ℕ) × (own_at l own n ≡ true)
own_level [] n h = differs false h refl
own_level (o ∷ own) n h =
    ⊎_elim
    (λ (u : has o.names n ≡ true). (o.level, or_left ((o.level == o.level) && has o.names n) (own_at o.level own n) (and_from (o.level == o.level) (has o.names n) (eq-eqb o.level o.level refl) u)))
    (λ (u : is_own own n ≡ true). let r = own_level own n u in (r.0, or_right ((o.level == r.0) && has o.names n) (own_at r.0 own n) r.1))
    (or_cases (has o.names n) (is_own own n) h)

above_none : (l k : ℕ) (own : List Own) → Each (λ (o : Own). o.level ≤ l) own → l < k → (n : List ℕ) → own_at k own n ≡ false
above_none l k [] h lt n = refl
above_none l k (o ∷ own) h lt n =
    let e : (o.level == k) ≡ false = ne_eqb o.level k (λ z. omega (arith, z, h.0, lt)) in
    rw e (above_none l k own h.1 lt n)

abbrev pub is_left : ℕ → Own → Bool
is_left level o = not (o.level == level)

left_at : (l k : ℕ) → (l ≡ k → ⊥) → (own : List Own) (n : List ℕ) → own_at l (filter (is_left k) own) n ≡ own_at l own n
left_at l k ne [] n = refl
left_at l k ne (o ∷ own) n =
    ⊎_elim
    (λ (u : (o.level == k) ≡ true).
    let z : (o.level == l) ≡ false = ne_eqb o.level l (λ y. ne (sym y ∙ eqb-true o.level k u)) in
    rw (u, z) (left_at l k ne own n))
    (λ (u : (o.level == k) ≡ false). rw u (ap (λ b. ((o.level == l) && has o.names n) || b) (left_at l k ne own n)))
    (cases_Bool (o.level == k))

left_none : (k : ℕ) (own : List Own) (n : List ℕ) → own_at k (filter (is_left k) own) n ≡ false
left_none k [] n = refl
left_none k (o ∷ own) n =
    ⊎_elim (λ (u : (o.level == k) ≡ true). rw u (left_none k own n)) (λ (u : (o.level == k) ≡ false). rw (u, u) (left_none k own n)) (cases_Bool (o.level == k))

left_low : (l : ℕ) (own : List Own) → Each (λ (o : Own). o.level ≤ suc l) own → Each (λ (o : Own). o.level ≤ l) (filter (is_left (suc l)) own)
left_low l [] h = tt
left_low l (o ∷ own) h =
    ⊎_elim
    (λ (u : (o.level == suc l) ≡ true). rw u (left_low l own h.1))
    (λ (u : (o.level == suc l) ≡ false). rw u (le l o.level h.0 (λ z. differs (o.level == suc l) (eq-eqb o.level (suc l) z) u), left_low l own h.1))
    (cases_Bool (o.level == suc l))
  where
    le : (l k : ℕ) → k ≤ suc l → (k ≡ suc l → ⊥) → k ≤ l
    le l k h ne = grind (arith, h, ne)

more_low : (l : ℕ) (own : List Own) → Each (λ (o : Own). o.level ≤ l) own → Each (λ (o : Own). o.level ≤ suc l) own
more_low l [] h = tt
more_low l (o ∷ own) h = (omega (arith, h.0), more_low l own h.1)

-- saved tests
saved_more : (ss : List Test) (bs : List Bool) (t : Test) (b : Bool) → AllZip Agrees ss bs → Agrees t b → AllZip Agrees (ss ++ t ∷ []) (bs ++ b ∷ [])
saved_more [] [] t b h a = (a, tt)
saved_more [] (x ∷ bs) t b h a = absurd h
saved_more (s ∷ ss) [] t b h a = absurd h
saved_more (s ∷ ss) (x ∷ bs) t b h a = (h.0, saved_more ss bs t b h.1 a)

saved_last : (ss : List Test) (bs : List Bool) (b : Bool) (t : Test) → AllZip Agrees ss (bs ++ b ∷ []) → last_saved ss ≡ Some t → Agrees t b × AllZip Agrees (before_last ss) bs
saved_last [] bs b t h e = let z : None ≡ Some t = e in absurd (cc z)
saved_last (s ∷ []) [] b t h e = let z : s ≡ t = cc e in (subst (λ y. Agrees y b) z h.0, tt)
saved_last (s ∷ []) (x ∷ []) b t h e = absurd h.1
saved_last (s ∷ []) (x ∷ y ∷ bs) b t h e = absurd h.1
saved_last (s ∷ u ∷ ss) [] b t h e = absurd h.1
saved_last (s ∷ u ∷ ss) (x ∷ bs) b t h e = let r = saved_last (u ∷ ss) bs b t h.1 e in (r.0, (h.0, r.1))

-- what a term mentions is not own at the level
have_has : (s : NameSet) (x : List ℕ) → has s x ≡ true → have (s ∷ []) x ≡ true
unfolding have
have_has s x k = or_left (has s x) false k

unescaped : (l : ℕ) (held : List LockTerm) (own : List Own) → list_any (λ (o : Own). (o.level == l) && mention (o.names ∷ []) held) own ≡ false
    → (x : List ℕ) → mentions x held ≡ true → own_at l own x ≡ false
unescaped l held [] h x m = refl
unescaped l held (o ∷ own) h x m =
    let p = or_parts ((o.level == l) && mention (o.names ∷ []) held) (list_any (λ (o : Own). (o.level == l) && mention (o.names ∷ []) held) own) h in
    ⊎_elim
    (λ (u : ((o.level == l) && has o.names x) ≡ true).
    let q = and_parts (o.level == l) (has o.names x) u in
    differs ((o.level == l) && mention (o.names ∷ []) held) (and_from (o.level == l) (mention (o.names ∷ []) held) q.0 (mentioned_such (have (o.names ∷ [])) x held m (have_has o.names x q.1))) p.0)
    (λ (u : ((o.level == l) && has o.names x) ≡ false). rw u (unescaped l held own p.1 x m))
    (cases_Bool ((o.level == l) && has o.names x))

module _ (sc : Scope) (w : World) (b : Level) (c : Case) (j : Job) (d : Stands sc w b c (bare j)) (k : IsWorld sc w) (pos : 0 < b.level) where
  abbrev pub inner : Level
  inner = record { level = suc b.level; back = j.bindings; own = c.own; tests = b.tests ++ j.test ∷ [] }

  pub begin_stands : Stands sc w inner (record c { saved = c.saved ++ c.test ∷ [] }) (bare j)
  begin_stands = record {
    test = d.test;
    saved = saved_more c.saved b.tests c.test j.test d.saved d.test;
    counts = d.counts;
    defined = d.defined;
    frame = d.frame;
    block = record { front = []; split = refl; bound = λ n. sym (above_none b.level (suc b.level) c.own d.low (omega arith) n) };
    outer = λ l ne n. refl;
    low = more_low b.level c.own d.low;
    formals = d.formals;
    held_sole = d.held_sole;
    kept_sole = d.kept_sole;
    unshared = d.unshared;
    kept = d.kept;
    kept_formal = d.kept_formal;
    kept_out = d.kept_out;
    guarded = d.guarded;
    numbered = d.numbered;
    running = d.running;
    routine = d.routine;
    ordered = d.ordered;
    older = d.older;
  }

  module _ (shares : SharesByOwn sc.is_shared sc.is_shared) (f : Case) (i : Job) (e : Stands sc w inner f (bare i)) (t : Test) (last : last_saved f.saved ≡ Some t)
      (esc : list_any (λ (o : Own). (o.level == suc b.level) && mention (o.names ∷ []) f.held) f.own ≡ false) where
    abbrev pub after : Cells
    after = forgotten j.next i.cells

    abbrev pub ended : Job
    ended = record i { bindings = j.bindings; next = j.next; cells = after; test = j.test }

    abbrev pub restored : Case
    restored = record f { test = t; own = filter (is_left (suc b.level)) f.own; saved = before_last f.saved }

    apart : (l : ℕ) → (l ≡ suc b.level → ⊥) → (n : List ℕ) → own_at l (filter (is_left (suc b.level)) f.own) n ≡ own_at l c.own n
    apart l ne n = left_at l (suc b.level) ne f.own n ∙ e.outer l ne n

    own_same : (n : List ℕ) → is_own c.own n ≡ is_own (filter (is_left (suc b.level)) f.own) n
    own_same n = same (is_own c.own n) (is_own (filter (is_left (suc b.level)) f.own) n)
        (λ h. let r = own_level c.own n h in own_of r.0 (filter (is_left (suc b.level)) f.own) n (apart r.0 (λ z. differs (own_at r.0 c.own n) r.1 (above_none b.level r.0 c.own d.low (omega (arith, z)) n)) n ∙ r.1))
        (λ h.
        let r = own_level (filter (is_left (suc b.level)) f.own) n h in
        own_of r.0 c.own n (sym (apart r.0 (λ z. differs (own_at r.0 (filter (is_left (suc b.level)) f.own) n) r.1 (subst (λ q. own_at q (filter (is_left (suc b.level)) f.own) n ≡ false) (sym z) (left_none (suc b.level) f.own n))) n) ∙ r.1))
      where
        same : (x y : Bool) → (x ≡ true → y ≡ true) → (y ≡ true → x ≡ true) → x ≡ y
        same true y g h = sym (g refl)
        same false true g h = h refl
        same false false g h = refl

    block_look : (x : List ℕ) → own_at (suc b.level) f.own x ≡ false → look i.bindings x ≡ look j.bindings x
    block_look x u = ap (λ z. look z x) e.block.split ∙ look_past e.block.front j.bindings x (e.block.bound x ∙ u)

    back_value : (x : List ℕ) → after (look j.bindings x) ≡ i.cells (look j.bindings x)
    back_value x = not_forgotten j.next i.cells (look j.bindings x) (below_look j.next j.bindings x d.older)

    behind : (q : Cell) → is_lent i.bindings q ≡ false → is_lent j.bindings q ≡ false
    behind q h = lent_behind e.block.front j.bindings q (subst (λ z. is_lent z q ≡ false) e.block.split h)

    held_look : (x : List ℕ) → mentions x f.held ≡ true → look i.bindings x ≡ look j.bindings x
    held_look x m = block_look x (unescaped (suc b.level) f.held f.own esc x m)

    kept_look : (x : List ℕ) → is_among f.kept x ≡ true → look i.bindings x ≡ look j.bindings x
    kept_look x h = block_look x (e.kept_out x h (suc b.level) (omega (arith, pos)))

    held_value : (x : List ℕ) → mentions x f.held ≡ true → after (look j.bindings x) ≡ i.cells (look i.bindings x)
    held_value x m = back_value x ∙ ap i.cells (sym (held_look x m))

    nested : Nested j.bindings w.waiting
    nested = subst (λ z. Nested z w.waiting) (sym d.frame.split) (nested_more d.frame.front w.back w.waiting k.nested)

    waiting_after : Guarded (λ q. after q ≡ i.cells q) w.waiting
    waiting_after = guarded_map (λ q. q.generation < j.next) (λ q. after q ≡ i.cells q) (λ q h. not_forgotten j.next i.cells q h) w.waiting (old_cells j.next j.bindings d.older w.waiting nested)

    pub end_stands : Stands sc w b restored (bare ended)
    end_stands =
        let tests = saved_last f.saved b.tests j.test t e.saved last in
        record {
          test = tests.0;
          saved = tests.1;
          counts = λ m.
              let g = times_same (now i) (now ended) refl f.held (λ x h. held_value x h) m in
              let l = waiting_kept i.cells after i.number w.waiting k.rests waiting_after m in
              let o = e.counts m in
              omega (arith, g, l, o);
          defined = λ x h. let v = e.defined x h in (v.0, held_value x h ∙ v.1);
          frame = record { front = d.frame.front; split = d.frame.split; bound = λ n. d.frame.bound n ∙ own_same n };
          block = record { front = d.block.front; split = d.block.split; bound = λ n. d.block.bound n ∙ sym (apart b.level (λ z. omega (arith, z)) n) };
          outer = λ l ne n.
              ⊎_elim
              (λ (u : (l == suc b.level) ≡ true).
              let z : l ≡ suc b.level = eqb-true l (suc b.level) u in
              subst (λ q. own_at q (filter (is_left (suc b.level)) f.own) n ≡ own_at q b.own n) (sym z)
              (left_none (suc b.level) f.own n ∙ sym (above_none b.level (suc b.level) c.own d.low (omega arith) n) ∙ d.outer (suc b.level) (λ y. omega (arith, y)) n))
              (λ (u : (l == suc b.level) ≡ false). apart l (λ z. differs (l == suc b.level) (eq-eqb l (suc b.level) z) u) n ∙ d.outer l ne n)
              (cases_Bool (l == suc b.level));
          low = left_low b.level f.own e.low;
          formals = λ x h. left_at 1 (suc b.level) (λ z. omega (arith, z, pos)) f.own x ∙ e.formals x h;
          held_sole = λ x h. behind (look j.bindings x) (subst (λ q. is_lent i.bindings q ≡ false) (held_look x h) (e.held_sole x h));
          kept_sole = λ x h r. behind (look j.bindings x) (subst (λ q. is_lent i.bindings q ≡ false) (kept_look x h) (e.kept_sole x h r));
          unshared = λ x h. d.unshared x (shares.by_own c.own (filter (is_left (suc b.level)) f.own) x (own_same x) ∙ h);
          kept = λ x h r. back_value x ∙ ap i.cells (sym (kept_look x h)) ∙ e.kept x h r;
          kept_formal = e.kept_formal;
          kept_out = λ x h l g.
              ⊎_elim
              (λ (u : (l == suc b.level) ≡ true). subst (λ q. own_at q (filter (is_left (suc b.level)) f.own) x ≡ false) (sym (eqb-true l (suc b.level) u)) (left_none (suc b.level) f.own x))
              (λ (u : (l == suc b.level) ≡ false). left_at l (suc b.level) (λ z. differs (l == suc b.level) (eq-eqb l (suc b.level) z) u) f.own x ∙ e.kept_out x h l g)
              (cases_Bool (l == suc b.level));
          guarded = guarded_map (λ q. ((i.cells q ≡ w.saved q) × (is_lent i.bindings q ≡ false)) × (after q ≡ i.cells q)) (λ q. (after q ≡ w.saved q) × (is_lent j.bindings q ≡ false))
              (λ q h. (h.1 ∙ h.0.0, behind q h.0.1)) w.waiting
              (guarded_both (λ q. (i.cells q ≡ w.saved q) × (is_lent i.bindings q ≡ false)) (λ q. after q ≡ i.cells q) w.waiting e.guarded waiting_after);
          numbered = e.numbered;
          running = e.running;
          routine = e.routine;
          ordered = d.ordered;
          older = d.older;
        }
