-- A call: the callee's begin is described, in its own world.
use Rattle.std.proofs.Common.{◌≡◌, ℕ, suc, ◌+◌, ◌<◌, ◌≤◌, Bool, true, false, List, [], ◌∷◌, ◌++◌, map, Option, Some, None, refl, sym, ap, ◌∙◌, subst, arith, ⊎_elim}
use Rattle.std.specs.Prelude.{◌||◌, ◌&&◌, ◌⊎◌, ◌==◌, nat_lt, length, not, bytes_eq, flat_map}
use Rattle.mlk_cert_lexemes.specs.Lists.{Each}
use Rattle.std.proofs.lemmas.Bool.{cases_Bool, or_cases, or_left, or_right, or_from, and_parts}
use Rattle.mlk_names.specs.declared.lock_name.LockName.{LockName}
use Rattle.mlk_names.specs.declared.term.LockTerm.{LockTerm}
use Rattle.mlk_names.specs.declared.symbol.Sym.{Sym}
use Rattle.mlk_names.specs.declared.known_symbol.KnownSym.{KnownSym}
use Rattle.mlk_names.specs.declared.known_symbol.KnownSym.TheVariants as known
use Rattle.mlk_names.specs.Symbols.{known_of}
use Rattle.mlk_program.specs.declared.entry.EntryId.{EntryId}
use Rattle.mlk_cert_parts.specs.declared.names.NameSet.{NameSet}
use Rattle.mlk_cert_parts.specs.declared.names.Own.{Own}
use Rattle.mlk_cert_parts.specs.declared.case.Case.{Case}
use Rattle.mlk_cert_parts.specs.declared.case.Test.TheVariants.{Any}
use Rattle.mlk_syntax.specs.Distinct.{AreDistinct}
use Rattle.mlk_syntax.specs.ExprTrees.{ActualTree}
use Rattle.std.specs.Fmt.{decimal}
use Rattle.mlk_cert_parts.specs.declared.case.Test.{Test}
use Rattle.mlk_machine_jobs.specs.Bindings.{Cell, same_cell, Fresh, ByReference, Bindings, Cells, look, forgotten}
use Rattle.mlk_machine_jobs.specs.Tasks.{Job}
use Rattle.mlk_machine_jobs.specs.Calling.{binders, with_actuals}
use Rattle.mlk_walk_state.specs.declared.state.State.{State}
use Rattle.mlk_walk_state.specs.Names.{has, have, is_own, is_among, without}
use Rattle.mlk_walk_state.specs.Scope.{Scope}
use Rattle.mlk_walk_state.specs.Terms.{all_taken, add_terms, put_terms, is_such}
use Rattle.std.proofs.lemmas.Bool.Decides.{nat_tests}
use Rattle.mlk_cert_parts.specs.declared.block.Summary.{Summary}
use Rattle.mlk_rules.specs.Ranks.{NameHasRank, FamiliesApart}
use Rattle.mlk_rules.specs.Laws.{RankedOnce}
use Rattle.mlk_walk_state.specs.Cases.{holds_some}
use Rattle.mlk_calls.specs.Claims.{is_low_enough}
use Rattle.mlk_soundness_machine.proofs.Ranks.{ranked_below}
use Rattle.mlk_calls.specs.Calls.{changed_by_call, lent_set, all_below, ranks_fault}
use Rattle.mlk_calls.specs.Changes.{marked}
use Rattle.mlk_machine_laws.specs.Sharing.{is_lent}
use Rattle.mlk_machine_laws.specs.Tidy.{Below}
use Rattle.mlk_machine_laws.proofs.Killing.{same_is}
use Rattle.mlk_machine_laws.proofs.Sharing.{ordered_binders, lent_behind}
use Rattle.mlk_machine_laws.proofs.Tidy.{below_look, below_more, binders_below}
use Rattle.mlk_machine_laws.proofs.Outside.{below_behind, actuals_before, not_forgotten}
use Rattle.mlk_soundness_machine.specs.Frames.{Waiting, times_waiting, Agrees}
use Rattle.mlk_soundness_machine.specs.Reads.{values_in, now, value_of, times, mentions}
use Rattle.mlk_soundness_machine.specs.Described.{some_local, World, Level, Guarded, Nested, own_at, IsWorld, bare, Stands}
use Rattle.mlk_soundness_machine.proofs.Sharing.{SharesByOwn}
use Rattle.mlk_soundness_machine.proofs.Reading.{differs, name_is, name_self, unmentioned, times_same, marked_some}
use Rattle.mlk_soundness_machine.proofs.Worlds.{guarded_map, guarded_both, guarded_all, look_past, waiting_kept, without_is, all_sole, may_apart, only_name}
use Rattle.mlk_soundness_machine.proofs.Changes.{Allowed}
use Rattle.mlk_soundness_machine.proofs.Terms.{put_name, AllLeft, all_left, times_given, times_put_all, mentions_put_all, put_into, Into, put_from}
use Rattle.mlk_soundness_machine.proofs.Passing.{refs_of, passes, Passed, binds_call, look_formal, lent_call, formal_value, put_other, passed_changes, changed_mods, unmarked}

-- cells of earlier generations
pub old_cells : (g : ℕ) (back : Bindings) → Below g back → (ws : List Waiting) → Nested back ws → Guarded (λ e. e.generation < g) ws
old_cells g back h [] n = tt
old_cells g back h (w ∷ ws) n =
    let k : Below g w.bindings = below_behind g n.0 w.bindings (subst (Below g) n.1 h) in
    ((λ x u. below_look g w.bindings x k), old_cells g w.bindings k ws n.2)

pub nested_more : (front back : Bindings) (ws : List Waiting) → Nested back ws → Nested (front ++ back) ws
nested_more front back [] n = tt
nested_more front back (w ∷ ws) n = (front ++ n.0, ap (λ z. front ++ z) n.1 ∙ sym (assoc front n.0 w.bindings), n.2)
  where
    assoc : (xs ys zs : Bindings) → (xs ++ ys) ++ zs ≡ xs ++ (ys ++ zs)
    assoc [] ys zs = refl
    assoc (x ∷ xs) ys zs = ap (λ l. x ∷ l) (assoc xs ys zs)

pub below_lent : (g : ℕ) (n : List ℕ) (bs : Bindings) → Below g bs → is_lent bs (record { generation = g; name = n }) ≡ false
below_lent g n [] h = refl
below_lent g n (Fresh x names ∷ bs) h = below_lent g n bs h.1
below_lent g n (ByReference f c ∷ bs) h =
    or_from (same_cell c (record { generation = g; name = n })) (is_lent bs (record { generation = g; name = n }))
    (⊎_elim
    (λ (u : same_cell c (record { generation = g; name = n }) ≡ true).
    let z : c.generation ≡ g = ap (λ (e : Cell). e.generation) (same_is c (record { generation = g; name = n }) u) in
    let y = h.0 in absurd (omega (arith, z, y)))
    (λ (u : same_cell c (record { generation = g; name = n }) ≡ false). u)
    (cases_Bool (same_cell c (record { generation = g; name = n }))))
    (below_lent g n bs h.1)

pub own_of : (level : ℕ) (own : List Own) (n : List ℕ) → own_at level own n ≡ true → is_own own n ≡ true
own_of level [] n h = differs false h refl
own_of level (o ∷ own) n h =
    ⊎_elim
    (λ u. or_left (has o.names n) (is_own own n) (and_parts (o.level == level) (has o.names n) u).1)
    (λ u. or_right (has o.names n) (is_own own n) (own_of level own n u))
    (or_cases ((o.level == level) && has o.names n) (own_at level own n) h)

-- ranks, if no fault is found
pub none_held : (terms : List LockTerm) → holds_some terms ≡ false → terms ≡ []
none_held [] h = refl
none_held (t ∷ terms) h = let e : nat_lt 0 (suc (length terms)) ≡ true = grind (arith, nat_tests) in differs (nat_lt 0 (suc (length terms))) e h

ranks_are : (sc : Scope) (summary : Summary) (aside : List LockTerm) → ranks_fault sc summary aside ≡ None
    → (all_below sc.rules.families summary.low aside ≡ true) × (is_low_enough sc.summary.low summary.low ≡ true) × (summary.drops ≡ true → (aside ≡ []) × (sc.summary.drops ≡ true))
ranks_are sc summary aside h =
    ⊎_elim
    (λ (u : all_below sc.rules.families summary.low aside ≡ true).
    ⊎_elim
    (λ (v : is_low_enough sc.summary.low summary.low ≡ true).
    ⊎_elim
    (λ (x : (summary.drops && holds_some aside) ≡ true). let z : Some _ ≡ None = (rw (u, v, x) at h) in absurd (cc z))
    (λ (x : (summary.drops && holds_some aside) ≡ false).
    ⊎_elim
    (λ (y : (summary.drops && not sc.summary.drops) ≡ true). let z : Some _ ≡ None = (rw (u, v, x, y) at h) in absurd (cc z))
    (λ (y : (summary.drops && not sc.summary.drops) ≡ false). (u, v, λ d. (none_held aside (sym (ap (λ q. q && holds_some aside) d) ∙ x), not_not (sc.summary.drops) (sym (ap (λ q. q && not sc.summary.drops) d) ∙ y))))
    (cases_Bool (summary.drops && not sc.summary.drops)))
    (cases_Bool (summary.drops && holds_some aside)))
    (λ (v : is_low_enough sc.summary.low summary.low ≡ false). let z : Some _ ≡ None = (rw (u, v) at h) in absurd (cc z))
    (cases_Bool (is_low_enough sc.summary.low summary.low)))
    (λ (u : all_below sc.rules.families summary.low aside ≡ false). let z : Some _ ≡ None = (rw u at h) in absurd (cc z))
    (cases_Bool (all_below sc.rules.families summary.low aside))
  where
    not_not : (x : Bool) → not x ≡ false → x ≡ true
    not_not true e = refl
    not_not false e = differs true refl e

-- the caller, after the values of the actuals were used
module _ (sc callee : Scope) (w : World) (b : Level) (s : State) (j : Job) (d : Stands sc w b s.case (bare j)) (k : IsWorld sc w)
    (sole : (x : List ℕ) → some_local x s.captured ≡ true → is_lent j.bindings (look j.bindings x) ≡ false)
    (formals : List (List ℕ)) (dist : AreDistinct formals) (given : List ActualTree) (syms : List Sym) (vals : List (List ℕ)) (passed : Passed (now j) given syms vals)
    (syms_sole : (x : List ℕ) → some_local x syms ≡ true → is_lent j.bindings (look j.bindings x) ≡ false)
    (needs aside : List LockTerm) (put : put_terms formals (map Some syms) callee.summary.need ≡ Some needs) (taken : all_taken needs s.case.held ≡ Some aside)
    (ok : Allowed sc (changed_by_call callee.summary given) s)
    (shares : SharesByOwn sc.is_shared callee.is_shared)
    (filled : (x : List ℕ) → refs_of formals given x ≡ true → (own : List Own) → is_own own x ≡ true → callee.is_shared own x ≡ true)
    (lent : (n : List ℕ) → passes formals given n ≡ true → (own : List Own) → is_own own n ≡ false → callee.is_shared own n ≡ true) (begun : List Job) (entry : EntryId) where
  abbrev pub ch : List NameSet
  ch = changed_by_call callee.summary given

  abbrev pub front : Bindings
  front = binders j.bindings j.next formals given

  abbrev pub cells : Cells
  cells = with_actuals j.next formals given vals j.cells

  abbrev pub guards : List ℕ → Bool
  guards x = mentions x aside || (some_local x (map (marked ch) syms) || (some_local x (map (marked ch) s.captured) || (is_among (without ch s.case.kept) x && not (w.refs x))))

  abbrev pub waiting : Waiting
  waiting = record { terms = aside; bindings = j.bindings; guards = guards }

  abbrev pub world : World
  world = record {
    number = w.number;
    back = j.bindings;
    waiting = waiting ∷ w.waiting;
    saved = cells;
    values = j.values;
    formals = is_among formals;
    refs = refs_of formals given;
    snap = λ x. cells (look (front ++ j.bindings) x);
    begun = begun;
    entry = entry;
  }

  abbrev pub level : Level
  level = record { level = 1; back = j.bindings; own = []; tests = [] }

  abbrev pub called : Job
  called = record j { routine = callee.own; bindings = front ++ j.bindings; next = suc j.next; cells = cells }

  left : AllLeft (now j) needs s.case.held aside
  left = all_left (now j) needs s.case.held aside taken

  pub old_value : (x : List ℕ) → cells (look j.bindings x) ≡ j.cells (look j.bindings x)
  old_value x = actuals_before j.next formals given vals j.cells (look j.bindings x) (below_look j.next j.bindings x d.older)

  -- what the caller depends on is nobody else's, and does not change
  not_false : (x : Bool) → not x ≡ true → x ≡ false
  not_false true h = differs false h refl
  not_false false h = refl

  pub guard_sole : (x : List ℕ) → guards x ≡ true → (is_lent j.bindings (look j.bindings x) ≡ false) × (have ch x ≡ false)
  guard_sole x h =
      ⊎_elim
      (λ (u : mentions x aside ≡ true). let m = left.rest_mentions x u in (d.held_sole x m, unmentioned ch x s.case.held ok.unheld m))
      (λ (u : (some_local x (map (marked ch) syms) || (some_local x (map (marked ch) s.captured) || (is_among (without ch s.case.kept) x && not (w.refs x)))) ≡ true).
      ⊎_elim
      (λ (v : some_local x (map (marked ch) syms) ≡ true). let q = marked_some ch x syms v in (syms_sole x q.1, q.0))
      (λ (v : (some_local x (map (marked ch) s.captured) || (is_among (without ch s.case.kept) x && not (w.refs x))) ≡ true).
      ⊎_elim
      (λ (y : some_local x (map (marked ch) s.captured) ≡ true). let q = marked_some ch x s.captured y in (sole x q.1, q.0))
      (λ (y : (is_among (without ch s.case.kept) x && not (w.refs x)) ≡ true).
      let p = and_parts (is_among (without ch s.case.kept) x) (not (w.refs x)) y in
      let q = without_is ch s.case.kept x p.0 in (d.kept_sole x q.0 (not_false (w.refs x) p.1), q.1))
      (or_cases (some_local x (map (marked ch) s.captured)) (is_among (without ch s.case.kept) x && not (w.refs x)) v))
      (or_cases (some_local x (map (marked ch) syms)) (some_local x (map (marked ch) s.captured) || (is_among (without ch s.case.kept) x && not (w.refs x))) u))
      (or_cases (mentions x aside) (some_local x (map (marked ch) syms) || (some_local x (map (marked ch) s.captured) || (is_among (without ch s.case.kept) x && not (w.refs x)))) h)

  pub safe : (x : List ℕ) → is_lent j.bindings (look j.bindings x) ≡ false → have ch x ≡ false → is_lent (front ++ j.bindings) (look j.bindings x) ≡ false
  safe x t u = lent_call j.bindings j.next formals given j.bindings (look j.bindings x) t (λ n h z.
      differs (have ch x) (subst (λ y. have ch y ≡ true) (only_name sc w b s.case (bare j) d k n x t z) (passed_changes formals given callee.summary.mods n h)) u)

  below_sole : Guarded (λ e. is_lent (front ++ j.bindings) e ≡ false) w.waiting
  below_sole = guarded_map
      (λ e. (is_lent j.bindings e ≡ false) × ((n : List ℕ) → passes formals given n ≡ true → look j.bindings n ≡ e → ⊥)) (λ e. is_lent (front ++ j.bindings) e ≡ false)
      (λ e h. lent_call j.bindings j.next formals given j.bindings e h.0 h.1) w.waiting
      (guarded_both (λ e. is_lent j.bindings e ≡ false) (λ e. (n : List ℕ) → passes formals given n ≡ true → look j.bindings n ≡ e → ⊥) w.waiting (all_sole sc w b s.case (bare j) d k)
      (guarded_all (λ n e. look j.bindings n ≡ e → ⊥) (passes formals given) w.waiting (λ n h. may_apart sc w b s.case (bare j) d k n (ok.may n (passed_changes formals given callee.summary.mods n h)))))

  pub nested : Nested j.bindings w.waiting
  nested = subst (λ z. Nested z w.waiting) (sym d.frame.split) (nested_more d.frame.front w.back w.waiting k.nested)

  pub below_same : Guarded (λ e. cells e ≡ j.cells e) w.waiting
  below_same = guarded_map (λ e. e.generation < j.next) (λ e. cells e ≡ j.cells e) (λ e h. actuals_before j.next formals given vals j.cells e h) w.waiting (old_cells j.next j.bindings d.older w.waiting nested)

  new_sole : (x : List ℕ) → is_lent (front ++ j.bindings) (record { generation = j.next; name = x }) ≡ false
  new_sole x = lent_call j.bindings j.next formals given j.bindings (record { generation = j.next; name = x }) (below_lent j.next x j.bindings d.older) (λ n h z.
      let y : (look j.bindings n).generation ≡ j.next = ap (λ (e : Cell). e.generation) z in
      let q = below_look j.next j.bindings n d.older in absurd (omega (arith, y, q)))

  other_look : (x : List ℕ) → is_among formals x ≡ false → look (front ++ j.bindings) x ≡ look j.bindings x
  other_look x u = look_past front j.bindings x (binds_call j.bindings j.next formals given x ∙ u)

  other_symbol : (x : List ℕ) (r : KnownSym) → is_among formals x ≡ false → known_of (put_name formals (map Some syms) x) ≡ Some r → known.Local x ≡ r
  other_symbol x r u e = let z : Some (known.Local x) ≡ Some r = sym (ap known_of (put_other formals syms x u)) ∙ e in cc z

  -- a needed term denotes what it denoted in the caller
  need_value : (x : List ℕ) (r : KnownSym) → known_of (put_name formals (map Some syms) x) ≡ Some r → value_of (now j) r ≡ cells (look (front ++ j.bindings) x)
  need_value x r e =
      ⊎_elim
      (λ (u : is_among formals x ≡ true).
      let f = formal_value j.next (now j) formals given syms vals j.cells dist passed x u r e in
      f.1 ∙ sym (ap cells (look_formal j.bindings j.next formals given j.bindings x u f.0)))
      (λ (u : is_among formals x ≡ false).
      subst (λ q. value_of (now j) q ≡ cells (look (front ++ j.bindings) x)) (other_symbol x r u e) (sym (ap cells (other_look x u) ∙ old_value x)))
      (cases_Bool (is_among formals x))

  need_sole : (x : List ℕ) → mentions x callee.summary.need ≡ true → is_lent (front ++ j.bindings) (look (front ++ j.bindings) x) ≡ false
  need_sole x h =
      let i = put_into formals (map Some syms) x callee.summary.need needs put h in
      ⊎_elim
      (λ (u : is_among formals x ≡ true).
      let f = formal_value j.next (now j) formals given syms vals j.cells dist passed x u i.symbol i.known in
      subst (λ e. is_lent (front ++ j.bindings) e ≡ false) (sym (look_formal j.bindings j.next formals given j.bindings x u f.0)) (new_sole x))
      (λ (u : is_among formals x ≡ false).
      let at : is_such (λ n. bytes_eq n x) i.symbol ≡ true = subst (λ q. is_such (λ n. bytes_eq n x) q ≡ true) (other_symbol x i.symbol u i.known) (self x) in
      let m = left.term_mentions x (i.of x at) in
      subst (λ e. is_lent (front ++ j.bindings) e ≡ false) (sym (other_look x u)) (safe x (d.held_sole x m) (unmentioned ch x s.case.held ok.unheld m)))
      (cases_Bool (is_among formals x))
    where
      self : (x : List ℕ) → bytes_eq x x ≡ true
      self x = name_self x

  need_defined : (x : List ℕ) → mentions x callee.summary.need ≡ true → (v : List ℕ) × (cells (look (front ++ j.bindings) x) ≡ Some v)
  need_defined x h = on i.symbol i.known i.of
    where
      i : Into formals (map Some syms) x (λ y. mentions y needs ≡ true)
      i = put_into formals (map Some syms) x callee.summary.need needs put h

      on : (r : KnownSym) → known_of (put_name formals (map Some syms) x) ≡ Some r → ((y : List ℕ) → is_such (λ n. bytes_eq n y) r ≡ true → mentions y needs ≡ true) → (v : List ℕ) × (cells (look (front ++ j.bindings) x) ≡ Some v)
      on (known.Const v) e f = (v, sym (need_value x (known.Const v) e))
      on (known.Local y) e f = let v = d.defined y (left.term_mentions y (f y (name_self y))) in (v.0, sym (need_value x (known.Local y) e) ∙ v.1)
      on known.Job e f = ((now j).job, sym (need_value x known.Job e))

  -- the callee's own names are its formals, at its begin
  module _ (own : List Own) (kept : List (List ℕ)) (owns : (n : List ℕ) → is_own own n ≡ is_among formals n) (first : (n : List ℕ) → own_at 1 own n ≡ is_among formals n)
      (others : (l : ℕ) → (l ≡ 1 → ⊥) → (n : List ℕ) → own_at l own n ≡ false) (low : Each (λ (o : Own). o.level ≤ 1) own) (keeps : (x : List ℕ) → is_among kept x ≡ true → is_among formals x ≡ true) where
    abbrev pub begin : Case
    begin = record { test = Any; saved = []; held = callee.summary.need; own = own; kept = kept }

    unshared : (x : List ℕ) → callee.is_shared own x ≡ false → is_lent (front ++ j.bindings) (look (front ++ j.bindings) x) ≡ false
    unshared x h =
        ⊎_elim
        (λ (u : is_among formals x ≡ true).
        ⊎_elim
        (λ (v : refs_of formals given x ≡ true). differs (callee.is_shared own x) (filled x v own (owns x ∙ u)) h)
        (λ (v : refs_of formals given x ≡ false). subst (λ e. is_lent (front ++ j.bindings) e ≡ false) (sym (look_formal j.bindings j.next formals given j.bindings x u v)) (new_sole x))
        (cases_Bool (refs_of formals given x)))
        (λ (u : is_among formals x ≡ false).
        let t = d.unshared x (shares.nowhere s.case.own own x (owns x ∙ u) h) in
        subst (λ e. is_lent (front ++ j.bindings) e ≡ false) (sym (other_look x u))
        (lent_call j.bindings j.next formals given j.bindings (look j.bindings x) t (λ n v z.
        let y = only_name sc w b s.case (bare j) d k n x t z in
        differs (callee.is_shared own x) (subst (λ q. callee.is_shared own q ≡ true) y (lent n v own (subst (λ q. is_own own q ≡ false) (sym y) (owns x ∙ u)))) h)))
        (cases_Bool (is_among formals x))

    pub call_stands : Stands callee world level begin (bare called)
    call_stands = record {
      test = tt;
      saved = tt;
      counts = λ m.
          let a = left.times_are m in
          let c = times_given formals (map Some syms) (now j) (now called) refl callee.summary.need needs put (λ x r i e. need_value x r e) m in
          let e = times_same (now j) (values_in cells j.bindings j.number) refl aside (λ x i. old_value x) m in
          let f = waiting_kept j.cells cells j.number w.waiting k.rests below_same m in
          let g = d.counts m in
          omega (arith, a, c, e, f, g);
      defined = need_defined;
      frame = record { front = front; split = refl; bound = λ n. binds_call j.bindings j.next formals given n ∙ sym (owns n) };
      block = record { front = front; split = refl; bound = λ n. binds_call j.bindings j.next formals given n ∙ sym (first n) };
      outer = λ l h n. others l h n;
      low = low;
      formals = λ x h. first x ∙ h;
      held_sole = need_sole;
      kept_sole = λ x h r. subst (λ e. is_lent (front ++ j.bindings) e ≡ false) (sym (look_formal j.bindings j.next formals given j.bindings x (keeps x h) r)) (new_sole x);
      unshared = unshared;
      kept = λ x h r. refl;
      kept_formal = λ x h. keeps x h;
      kept_out = λ x h l g. others l (λ e. omega (arith, e, g)) x;
      guarded = (
        (λ x h. let q = guard_sole x h in (refl, safe x q.0 q.1)),
        guarded_map (λ e. is_lent (front ++ j.bindings) e ≡ false) (λ e. (cells e ≡ cells e) × (is_lent (front ++ j.bindings) e ≡ false)) (λ e h. (refl, h)) w.waiting below_sole,
      );
      numbered = d.numbered;
      running = d.running;
      routine = refl;
      ordered = ordered_binders j.bindings j.next formals given j.bindings dist d.older d.older d.ordered;
      older = binders_below j.bindings j.next formals given j.bindings d.older (below_more j.next (suc j.next) (omega arith) j.bindings d.older);
    }

  -- the callee changes nothing that its callers depend on
  pub call_quiet : (n : List ℕ) → have callee.summary.mods n ≡ true → Guarded (λ e. look j.bindings n ≡ e → ⊥) (waiting ∷ w.waiting)
  call_quiet n h =
      let c : have ch n ≡ true = changed_mods callee.summary.mods (flat_map lent_set given) n h in (
        (λ x g z. let q = guard_sole x g in differs (have ch x) (subst (λ y. have ch y ≡ true) (only_name sc w b s.case (bare j) d k n x q.0 z) c) q.1),
        may_apart sc w b s.case (bare j) d k n (ok.may n c),
      )

  -- the callee's world: waiting frames hold names of lower ranks, and none if all may be released
  pub call_world : callee.rules ≡ sc.rules → FamiliesApart sc.rules.families → RankedOnce sc.rules.families → ranks_fault sc callee.summary aside ≡ None → IsWorld callee world
  call_world rules apart once fault =
      let f = ranks_are sc callee.summary aside fault in
      record {
        nested = ([], refl, nested);
        rests = (
          (λ x h. or_left (mentions x aside) (some_local x (map (marked ch) syms) || (some_local x (map (marked ch) s.captured) || (is_among (without ch s.case.kept) x && not (w.refs x)))) h),
          k.rests,
        );
        quiet = call_quiet;
        ranks = λ low e m h. subst (λ z. (r : ℕ) × NameHasRank z.families m r × (r < low)) (sym rules)
            (⊎_elim
            (λ (u : 0 < times (values_in cells j.bindings w.number) aside m).
            ranked_below (values_in cells j.bindings w.number) sc.rules.families apart once low aside (subst (λ z. all_below sc.rules.families z aside ≡ true) e f.0) m u)
            (λ (u : 0 < times_waiting cells w.number w.waiting m). from low (subst (λ z. is_low_enough sc.summary.low z ≡ true) e f.1) m sc.summary.low refl u)
            (either (times (values_in cells j.bindings w.number) aside m) (times_waiting cells w.number w.waiting m) h));
        drops = λ h m.
            let g = f.2 h in
            let z = k.drops g.1 m in
            let y = saved_same m in
            let x : times (values_in cells j.bindings w.number) aside m ≡ 0 = subst (λ l. times (values_in cells j.bindings w.number) l m ≡ 0) (sym g.0) refl in
            omega (arith, x, y, z);
      }
    where
      either : (x y : ℕ) → 0 < x + y → (0 < x) ⊎ (0 < y)
      either x y g = grind arith

      saved_same : (m : LockName) → times_waiting cells w.number w.waiting m ≡ times_waiting w.saved w.number w.waiting m
      saved_same m = waiting_kept w.saved cells w.number w.waiting k.rests
          (guarded_map (λ e. (cells e ≡ j.cells e) × ((j.cells e ≡ w.saved e) × (is_lent j.bindings e ≡ false))) (λ e. cells e ≡ w.saved e) (λ e h. h.0 ∙ h.1.0) w.waiting
          (guarded_both (λ e. cells e ≡ j.cells e) (λ e. (j.cells e ≡ w.saved e) × (is_lent j.bindings e ≡ false)) w.waiting below_same d.guarded)) m

      from : (low : ℕ) → is_low_enough sc.summary.low (Some low) ≡ true → (m : LockName) → (o : Option ℕ) → sc.summary.low ≡ o → 0 < times_waiting cells w.number w.waiting m → (r : ℕ) × NameHasRank sc.rules.families m r × (r < low)
      from low g m None e u = let z : is_low_enough None (Some low) ≡ true = subst (λ q. is_low_enough q (Some low) ≡ true) e g in differs false z refl
      from low g m (Some l) e u =
          let z : is_low_enough (Some l) (Some low) ≡ true = subst (λ q. is_low_enough q (Some low) ≡ true) e g in
          let r = k.ranks l e m (subst (λ q. 0 < q) (saved_same m) u) in
          let le : l ≤ low = grind (arith, nat_tests, z) in
          (r.0, r.1, (let lt = r.2 in omega (arith, le, lt)))

  -- The callee's end: its case describes the job, each own name that its terms mention is kept, and its terms are translated by
  -- the actuals as they are then.
  module _ (c : Case) (i : Job) (e : Stands callee world level c (bare i)) (fine : (x : List ℕ) → mentions x c.held ≡ true → is_own c.own x ≡ true → is_among c.kept x ≡ true)
      (terms : List LockTerm) (out : put_terms formals (map Some (map (marked ch) syms)) c.held ≡ Some terms) (test : Test) (truth : Bool) (agrees : Agrees test truth) where
    abbrev pub after : Cells
    after = forgotten j.next i.cells

    abbrev pub returned : Job
    returned = record i { bindings = j.bindings; next = j.next; cells = after; routine = j.routine; test = truth }

    abbrev pub ended : Case
    ended = record { test = test; saved = s.case.saved; held = add_terms terms aside; own = s.case.own; kept = without ch s.case.kept }

    back_value : (x : List ℕ) → after (look j.bindings x) ≡ i.cells (look j.bindings x)
    back_value x = not_forgotten j.next i.cells (look j.bindings x) (below_look j.next j.bindings x d.older)

    pub guard_value : (x : List ℕ) → guards x ≡ true → after (look j.bindings x) ≡ j.cells (look j.bindings x)
    guard_value x h = back_value x ∙ (e.guarded.0 x h).0 ∙ old_value x

    behind : (q : Cell) → is_lent i.bindings q ≡ false → is_lent j.bindings q ≡ false
    behind q h = lent_behind e.frame.front j.bindings q (subst (λ z. is_lent z q ≡ false) e.frame.split h)

    pub guard_behind : (x : List ℕ) → guards x ≡ true → is_lent j.bindings (look j.bindings x) ≡ false
    guard_behind x h = behind (look j.bindings x) (e.guarded.0 x h).1

    pub same_number : i.number ≡ j.number
    same_number = e.numbered ∙ sym d.numbered

    is_formal : (x : List ℕ) → is_own c.own x ≡ true → mentions x c.held ≡ true → is_among formals x ≡ true
    is_formal x h m = e.kept_formal x (fine x m h)

    formal_own : (x : List ℕ) → is_among formals x ≡ true → is_own c.own x ≡ true
    formal_own x h = own_of 1 c.own x (e.formals x h)

    not_own : (x : List ℕ) → is_among formals x ≡ false → mentions x c.held ≡ true → is_own c.own x ≡ false
    not_own x h m = ⊎_elim (λ (u : is_own c.own x ≡ true). differs (is_among formals x) (is_formal x u m) h) (λ (u : is_own c.own x ≡ false). u) (cases_Bool (is_own c.own x))

    leave_look : (x : List ℕ) → is_own c.own x ≡ false → look i.bindings x ≡ look j.bindings x
    leave_look x u = ap (λ z. look z x) e.frame.split ∙ look_past e.frame.front j.bindings x (e.frame.bound x ∙ u)

    other_marked : (x : List ℕ) (r : KnownSym) → is_among formals x ≡ false → known_of (put_name formals (map Some (map (marked ch) syms)) x) ≡ Some r → known.Local x ≡ r
    other_marked x r u z = let y : Some (known.Local x) ≡ Some r = sym (ap known_of (put_other formals (map (marked ch) syms) x u)) ∙ z in cc y

    in_marks : (y : List ℕ) → some_local y (map (marked ch) syms) ≡ true → guards y ≡ true
    in_marks y h = or_right (mentions y aside) (some_local y (map (marked ch) syms) || (some_local y (map (marked ch) s.captured) || (is_among (without ch s.case.kept) y && not (w.refs y))))
        (or_left (some_local y (map (marked ch) syms)) (some_local y (map (marked ch) s.captured) || (is_among (without ch s.case.kept) y && not (w.refs y))) h)

    -- the value of a symbol of the caller now, and at the call
    since : (r : KnownSym) → ((y : List ℕ) → is_such (λ n. bytes_eq n y) r ≡ true → guards y ≡ true) → value_of (now returned) r ≡ value_of (now j) r
    since (known.Const v) h = refl
    since (known.Local y) h = guard_value y (h y (name_self y))
    since known.Job h = ap (λ z. Some (decimal z)) same_number

    leave_value : (x : List ℕ) (r : KnownSym) → mentions x c.held ≡ true → known_of (put_name formals (map Some (map (marked ch) syms)) x) ≡ Some r → value_of (now returned) r ≡ i.cells (look i.bindings x)
    leave_value x r m z =
        ⊎_elim
        (λ (u : is_among formals x ≡ true).
        let q = unmarked ch formals syms x r u z in
        let kept = fine x m (formal_own x u) in
        let f = formal_value j.next (now j) formals given syms vals j.cells dist passed x u r q.known in
        since r (λ y g. in_marks y (q.at y g)) ∙ need_value x r q.known ∙ sym (e.kept x kept f.0))
        (λ (u : is_among formals x ≡ false).
        subst (λ y. value_of (now returned) y ≡ i.cells (look i.bindings x)) (other_marked x r u z) (back_value x ∙ ap i.cells (sym (leave_look x (not_own x u m)))))
        (cases_Bool (is_among formals x))

    leave_sole : (y : List ℕ) → mentions y terms ≡ true → is_lent j.bindings (look j.bindings y) ≡ false
    leave_sole y h =
        let f = put_from formals (map Some (map (marked ch) syms)) y c.held terms out h in
        ⊎_elim
        (λ (u : is_among formals f.name ≡ true).
        let q = unmarked ch formals syms f.name f.symbol u f.known in guard_behind y (in_marks y (q.at y f.at)))
        (λ (u : is_among formals f.name ≡ false).
        let z : bytes_eq f.name y ≡ true = subst (λ q. is_such (λ n. bytes_eq n y) q ≡ true) (sym (other_marked f.name f.symbol u f.known)) f.at in
        let t = e.held_sole f.name f.of in
        let l = leave_look f.name (not_own f.name u f.of) in
        subst (λ q. is_lent j.bindings (look j.bindings q) ≡ false) (name_is f.name y z) (behind (look j.bindings f.name) (subst (λ q. is_lent i.bindings q ≡ false) l t)))
        (cases_Bool (is_among formals f.name))

    leave_defined : (y : List ℕ) → mentions y terms ≡ true → (v : List ℕ) × (after (look j.bindings y) ≡ Some v)
    leave_defined y h =
        let f = put_from formals (map Some (map (marked ch) syms)) y c.held terms out h in
        let v = e.defined f.name f.of in
        (v.0, on f.symbol f.at (leave_value f.name f.symbol f.of f.known ∙ v.1))
      where
        on : (r : KnownSym) → is_such (λ n. bytes_eq n y) r ≡ true → {v : List ℕ} → value_of (now returned) r ≡ Some v → after (look j.bindings y) ≡ Some v
        on (known.Const v) u z = differs false u refl
        on (known.Local n) u {v} z = subst (λ q. after (look j.bindings q) ≡ Some v) (name_is n y u) z
        on known.Job u z = differs false u refl

    pub aside_guard : (x : List ℕ) → mentions x aside ≡ true → guards x ≡ true
    aside_guard x h = or_left (mentions x aside) (some_local x (map (marked ch) syms) || (some_local x (map (marked ch) s.captured) || (is_among (without ch s.case.kept) x && not (w.refs x)))) h

    kept_guard : (x : List ℕ) → is_among (without ch s.case.kept) x ≡ true → w.refs x ≡ false → guards x ≡ true
    kept_guard x h r =
        or_right (mentions x aside) (some_local x (map (marked ch) syms) || (some_local x (map (marked ch) s.captured) || (is_among (without ch s.case.kept) x && not (w.refs x))))
        (or_right (some_local x (map (marked ch) syms)) (some_local x (map (marked ch) s.captured) || (is_among (without ch s.case.kept) x && not (w.refs x)))
        (or_right (some_local x (map (marked ch) s.captured)) (is_among (without ch s.case.kept) x && not (w.refs x)) (rw (h, r) refl)))

    pub waiting_after : Guarded (λ q. after q ≡ i.cells q) w.waiting
    waiting_after = guarded_map (λ q. q.generation < j.next) (λ q. after q ≡ i.cells q) (λ q h. not_forgotten j.next i.cells q h) w.waiting (old_cells j.next j.bindings d.older w.waiting nested)

    pub in_captured : (x : List ℕ) → some_local x (map (marked ch) s.captured) ≡ true → guards x ≡ true
    in_captured x h =
        or_right (mentions x aside) (some_local x (map (marked ch) syms) || (some_local x (map (marked ch) s.captured) || (is_among (without ch s.case.kept) x && not (w.refs x))))
        (or_right (some_local x (map (marked ch) syms)) (some_local x (map (marked ch) s.captured) || (is_among (without ch s.case.kept) x && not (w.refs x)))
        (or_left (some_local x (map (marked ch) s.captured)) (is_among (without ch s.case.kept) x && not (w.refs x)) h))

    pub leave_stands : Stands sc w b ended (bare returned)
    leave_stands = record {
      test = agrees;
      saved = d.saved;
      counts = λ m.
          let a = times_put_all (now returned) terms aside m in
          let f = times_given formals (map Some (map (marked ch) syms)) (now returned) (now i) refl c.held terms out (λ x r q z. leave_value x r q z) m in
          let g = times_same (values_in i.cells j.bindings i.number) (now returned) refl aside (λ x q. back_value x) m in
          let l = waiting_kept i.cells after i.number w.waiting k.rests waiting_after m in
          let o = e.counts m in
          omega (arith, a, f, g, l, o);
      defined = λ y h. ⊎_elim
          (λ u. leave_defined y u)
          (λ u. let v = d.defined y (left.rest_mentions y u) in (v.0, guard_value y (aside_guard y u) ∙ v.1))
          (mentions_put_all y terms aside h);
      frame = d.frame;
      block = d.block;
      outer = d.outer;
      low = d.low;
      formals = d.formals;
      held_sole = λ y h. ⊎_elim (λ u. leave_sole y u) (λ u. guard_behind y (aside_guard y u)) (mentions_put_all y terms aside h);
      kept_sole = λ x h r. guard_behind x (kept_guard x h r);
      unshared = d.unshared;
      kept = λ x h r. guard_value x (kept_guard x h r) ∙ d.kept x (without_is ch s.case.kept x h).0 r;
      kept_formal = λ x h. d.kept_formal x (without_is ch s.case.kept x h).0;
      kept_out = λ x h. d.kept_out x (without_is ch s.case.kept x h).0;
      guarded = guarded_map
          (λ q. (((i.cells q ≡ cells q) × (is_lent i.bindings q ≡ false)) × (after q ≡ i.cells q)) × ((cells q ≡ j.cells q) × ((j.cells q ≡ w.saved q) × (is_lent j.bindings q ≡ false))))
          (λ q. (after q ≡ w.saved q) × (is_lent j.bindings q ≡ false))
          (λ q h. (h.0.1 ∙ h.0.0.0 ∙ h.1.0 ∙ h.1.1.0, h.1.1.1)) w.waiting
          (guarded_both (λ q. ((i.cells q ≡ cells q) × (is_lent i.bindings q ≡ false)) × (after q ≡ i.cells q)) (λ q. (cells q ≡ j.cells q) × ((j.cells q ≡ w.saved q) × (is_lent j.bindings q ≡ false))) w.waiting
          (guarded_both (λ q. (i.cells q ≡ cells q) × (is_lent i.bindings q ≡ false)) (λ q. after q ≡ i.cells q) w.waiting e.guarded.1 waiting_after)
          (guarded_both (λ q. cells q ≡ j.cells q) (λ q. (j.cells q ≡ w.saved q) × (is_lent j.bindings q ≡ false)) w.waiting below_same d.guarded));
      numbered = e.numbered;
      running = e.running;
      routine = d.routine;
      ordered = d.ordered;
      older = d.older;
    }
