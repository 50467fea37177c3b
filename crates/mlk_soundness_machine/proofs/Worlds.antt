-- What may change is nothing that waiting frames depend on.
use Rattle.std.proofs.Common.{◌≡◌, ℕ, ◌+◌, Bool, true, false, List, [], ◌∷◌, ◌++◌, Option, None, refl, sym, ap, ◌∙◌, subst, ⊎_elim, map, reverse, append_assoc}
use Rattle.std.specs.Prelude.{◌||◌, ◌⊎◌, bytes_eq}
use Rattle.std.proofs.lemmas.List.{reverse-append}
use Rattle.std.proofs.lemmas.Bool.{cases_Bool, or_cases, or_parts, or_left, or_right}
use Rattle.mlk_names.specs.declared.lock_name.LockName.{LockName}
use Rattle.mlk_names.specs.Symbols.{StandsFor}
use Rattle.mlk_cert_parts.specs.declared.names.NameSet.{NameSet}
use Rattle.mlk_machine_jobs.specs.Bindings.{covers, Cell, Fresh, ByReference, Bindings, Cells, look}
use Rattle.mlk_machine_jobs.specs.Tasks.{Job}
use Rattle.mlk_walk_state.specs.declared.state.State.{State}
use Rattle.mlk_walk_state.specs.Names.{have, is_own, is_among, without}
use Rattle.mlk_walk_state.specs.Scope.{Scope}
use Rattle.mlk_walk_state.specs.Terms.{mention}
use Rattle.mlk_calls.specs.Changes.{marked, without_kept, changed_state}
use Rattle.mlk_names.specs.declared.symbol.Sym.{Sym}
use Rattle.mlk_cert_parts.specs.declared.case.Case.{Case}
use Rattle.mlk_walk_state.specs.States.{with_symbol}
use Rattle.mlk_machine_laws.specs.Sharing.{binds, is_lent}
use Rattle.mlk_machine_laws.proofs.Sharing.{Ordered, shares}
use Rattle.mlk_soundness_machine.specs.Frames.{Waiting, times_waiting}
use Rattle.mlk_soundness_machine.specs.Reads.{values_in, now, mentions}
use Rattle.mlk_soundness_machine.specs.Described.{is_local, World, Level, Slot, Kept, Bare, IsGiven, Fills, Guarded, Nested, Rests, IsWorld, bare, Stands, Describes}
use Rattle.mlk_soundness_machine.proofs.Reading.{differs, name_is, unmentioned, times_same, fills_same, marked_some, marked_fills, local_last, local_reversed, reversed_map}

module _ (P Q : Cell → Type 0) (f : (d : Cell) → P d → Q d) where
  pub guarded_map : (ws : List Waiting) → Guarded P ws → Guarded Q ws
  guarded_map [] g = tt
  guarded_map (w ∷ ws) g = ((λ x h. f (look w.bindings x) (g.0 x h)), guarded_map ws g.1)

pub guarded_both : (P Q : Cell → Type 0) (ws : List Waiting) → Guarded P ws → Guarded Q ws → Guarded (λ d. P d × Q d) ws
guarded_both P Q [] g h = tt
guarded_both P Q (w ∷ ws) g h = ((λ x k. (g.0 x k, h.0 x k)), guarded_both P Q ws g.1 h.1)

pub guarded_all : (R : List ℕ → Cell → Type 0) (p : List ℕ → Bool) (ws : List Waiting) → ((n : List ℕ) → p n ≡ true → Guarded (R n) ws) → Guarded (λ d. (n : List ℕ) → p n ≡ true → R n d) ws
guarded_all R p [] g = tt
guarded_all R p (w ∷ ws) g = ((λ x k n h. (g n h).0 x k), guarded_all R p ws (λ n h. (g n h).1))

pub look_past : (front back : Bindings) (n : List ℕ) → binds front n ≡ false → look (front ++ back) n ≡ look back n
look_past [] back n h = refl
look_past (Fresh g names ∷ front) back n h = let p = or_parts (covers names n) (binds front n) h in rw p.0 (look_past front back n p.1)
look_past (ByReference f c ∷ front) back n h = let p = or_parts (bytes_eq f n) (binds front n) h in rw p.0 (look_past front back n p.1)

or_three : (x y z : Bool) → (x || (y || z)) ≡ ((x || y) || z)
or_three true y z = refl
or_three false y z = refl

pub binds_append : (front back : Bindings) (n : List ℕ) → binds (front ++ back) n ≡ (binds front n || binds back n)
binds_append [] back n = refl
binds_append (Fresh g names ∷ front) back n = ap (λ x. covers names n || x) (binds_append front back n) ∙ or_three (covers names n) (binds front n) (binds back n)
binds_append (ByReference f c ∷ front) back n = ap (λ x. bytes_eq f n || x) (binds_append front back n) ∙ or_three (bytes_eq f n) (binds front n) (binds back n)

-- a name that was bound anew since a frame began has none of the cells that waiting frames depend on
anew_apart : (cur : Bindings) (n : List ℕ) → Ordered cur → (front back : Bindings) → cur ≡ front ++ back → binds front n ≡ true → (ws : List Waiting) → Nested back ws
    → Guarded (λ d. is_lent cur d ≡ false) ws → Guarded (λ d. look cur n ≡ d → ⊥) ws
anew_apart cur n o front back e h [] nested sole = tt
anew_apart cur n o front back e h (w ∷ ws) nested sole =
    let split : cur ≡ (front ++ nested.0) ++ w.bindings = e ∙ ap (λ l. front ++ l) nested.1 ∙ sym (append_assoc front nested.0 w.bindings) in
    let anew : binds (front ++ nested.0) n ≡ true = binds_append front nested.0 n ∙ or_left (binds front n) (binds nested.0 n) h in (
      (λ x g z. differs (binds (front ++ nested.0) n) anew (shares cur o (front ++ nested.0) w.bindings split n x z (sole.0 x g)).1),
      anew_apart cur n o (front ++ nested.0) w.bindings split anew ws nested.2 sole.1,
    )

pub waiting_kept : (cells after : Cells) (number : ℕ) (ws : List Waiting) → Rests ws → Guarded (λ e. after e ≡ cells e) ws → (m : LockName)
    → times_waiting after number ws m ≡ times_waiting cells number ws m
waiting_kept cells after number [] r g m = refl
waiting_kept cells after number (w ∷ ws) r g m =
    let a = times_same (values_in cells w.bindings number) (values_in after w.bindings number) refl w.terms (λ x u. g.0 x (r.0 x u)) m in
    let b = waiting_kept cells after number ws r.1 g.1 m in
    rw (a, b) refl

pub without_is : (names : List NameSet) (kept : List (List ℕ)) (x : List ℕ) → is_among (without names kept) x ≡ true → (is_among kept x ≡ true) × (have names x ≡ false)
unfolding is_among
without_is names [] x h = differs false h refl
without_is names (n ∷ kept) x h =
    ⊎_elim
    (λ (u : have names n ≡ true). let r = without_is names kept x (rw u at h) in (or_right (bytes_eq x n) (is_among kept x) r.0, r.1))
    (λ (u : have names n ≡ false).
    let k : (bytes_eq x n || is_among (without names kept) x) ≡ true = (rw u at h) in
    ⊎_elim
    (λ e. (or_left (bytes_eq x n) (is_among kept x) e, subst (λ y. have names y ≡ false) (sym (name_is x n e)) u))
    (λ e. let r = without_is names kept x e in (or_right (bytes_eq x n) (is_among kept x) r.0, r.1))
    (or_cases (bytes_eq x n) (is_among (without names kept) x) k))
    (cases_Bool (have names n))

module _ (sc : Scope) (w : World) (b : Level) (c : Case) (j : Job) (d : Stands sc w b c j) (k : IsWorld sc w) where
  pub all_sole : Guarded (λ e. is_lent j.bindings e ≡ false) w.waiting
  all_sole = guarded_map (λ e. (j.cells e ≡ w.saved e) × (is_lent j.bindings e ≡ false)) (λ e. is_lent j.bindings e ≡ false) (λ e h. h.1) w.waiting d.guarded

  -- a name that may change here has none of the cells that waiting frames depend on
  pub may_apart : (n : List ℕ) → (is_own c.own n || have sc.summary.mods n) ≡ true → Guarded (λ e. look j.bindings n ≡ e → ⊥) w.waiting
  may_apart n may =
      ⊎_elim
      (λ (u : binds d.frame.front n ≡ true). anew_apart j.bindings n d.ordered d.frame.front w.back d.frame.split u w.waiting k.nested all_sole)
      (λ (u : binds d.frame.front n ≡ false).
      let not_own : is_own c.own n ≡ false = sym (d.frame.bound n) ∙ u in
      let mods : have sc.summary.mods n ≡ true = ⊎_elim (λ v. differs (is_own c.own n) v not_own) (λ v. v) (or_cases (is_own c.own n) (have sc.summary.mods n) may) in
      let same : look j.bindings n ≡ look w.back n = ap (λ bs. look bs n) d.frame.split ∙ look_past d.frame.front w.back n u in
      guarded_map (λ e. look w.back n ≡ e → ⊥) (λ e. look j.bindings n ≡ e → ⊥) (λ e h z. h (sym same ∙ z)) w.waiting (k.quiet n mods))
      (cases_Bool (binds d.frame.front n))

  -- no other name of the frame has the cell of a name that is nobody else's
  pub only_name : (n x : List ℕ) → is_lent j.bindings (look j.bindings x) ≡ false → look j.bindings n ≡ look j.bindings x → n ≡ x
  only_name n x sole e = (shares j.bindings d.ordered [] j.bindings refl n x e sole).0

  -- a change of names: a cell is unchanged, or is that of a changed name
  module _ (names : List NameSet) (cells : Cells) (only : (e : Cell) → (cells e ≡ j.cells e) ⊎ ((n : List ℕ) × (have names n ≡ true) × (look j.bindings n ≡ e)))
      (unheld : mention names c.held ≡ false) (may : (n : List ℕ) → have names n ≡ true → (is_own c.own n || have sc.summary.mods n) ≡ true) where
    pub change_here : (x : List ℕ) → is_lent j.bindings (look j.bindings x) ≡ false → have names x ≡ false → cells (look j.bindings x) ≡ j.cells (look j.bindings x)
    change_here x sole h =
        ⊎_elim (λ u. u)
        (λ (u : (n : List ℕ) × (have names n ≡ true) × (look j.bindings n ≡ look j.bindings x)).
        differs (have names x) (subst (λ y. have names y ≡ true) (only_name u.0 x sole u.2) u.1) h)
        (only (look j.bindings x))

    change_below : Guarded (λ e. cells e ≡ j.cells e) w.waiting
    change_below =
        guarded_map (λ e. (n : List ℕ) → have names n ≡ true → look j.bindings n ≡ e → ⊥) (λ e. cells e ≡ j.cells e)
        (λ e h. ⊎_elim (λ u. u) (λ (u : (n : List ℕ) × (have names n ≡ true) × (look j.bindings n ≡ e)). absurd (h u.0 u.1 u.2)) (only e)) w.waiting
        (guarded_all (λ n e. look j.bindings n ≡ e → ⊥) (have names) w.waiting (λ n h. may_apart n (may n h)))

    held_kept : (x : List ℕ) → mentions x c.held ≡ true → cells (look j.bindings x) ≡ j.cells (look j.bindings x)
    held_kept x h = change_here x (d.held_sole x h) (unmentioned names x c.held unheld h)

    pub change_stands : Stands sc w b (without_kept names c) (record j { cells = cells })
    change_stands = record {
      test = d.test;
      saved = d.saved;
      counts = λ m.
          let a = times_same (now j) (now (record j { cells = cells })) refl c.held (λ x u. held_kept x u) m in
          let e = waiting_kept j.cells cells j.number w.waiting k.rests change_below m in
          rw (a, e) (d.counts m);
      defined = λ x h. let v = d.defined x h in (v.0, held_kept x h ∙ v.1);
      frame = d.frame;
      block = d.block;
      outer = d.outer;
      low = d.low;
      formals = d.formals;
      held_sole = d.held_sole;
      kept_sole = λ x h r. d.kept_sole x (without_is names c.kept x h).0 r;
      unshared = d.unshared;
      kept = λ x h r. let q = without_is names c.kept x h in change_here x (d.kept_sole x q.0 r) q.1 ∙ d.kept x q.0 r;
      kept_formal = λ x h. d.kept_formal x (without_is names c.kept x h).0;
      kept_out = λ x h. d.kept_out x (without_is names c.kept x h).0;
      guarded = guarded_map (λ e. ((j.cells e ≡ w.saved e) × (is_lent j.bindings e ≡ false)) × (cells e ≡ j.cells e)) (λ e. (cells e ≡ w.saved e) × (is_lent j.bindings e ≡ false))
          (λ e h. (h.1 ∙ h.0.0, h.0.1)) w.waiting
          (guarded_both (λ e. (j.cells e ≡ w.saved e) × (is_lent j.bindings e ≡ false)) (λ e. cells e ≡ j.cells e) w.waiting d.guarded change_below);
      numbered = d.numbered;
      running = d.running;
      routine = d.routine;
      ordered = d.ordered;
      older = d.older;
    }

module _ (sc : Scope) (w : World) (b : Level) (slots : List Slot) (s : State) (j : Job) (d : Describes sc w b slots s j) where
  -- a change of names, in a state
  pub change_law : IsWorld sc w → (names : List NameSet) (cells : Cells) → ((e : Cell) → (cells e ≡ j.cells e) ⊎ ((n : List ℕ) × (have names n ≡ true) × (look j.bindings n ≡ e)))
      → mention names s.case.held ≡ false → ((n : List ℕ) → have names n ≡ true → (is_own s.case.own n || have sc.summary.mods n) ≡ true)
      → Describes sc w b slots (changed_state names s) (record j { cells = cells })
  change_law k names cells only unheld may = record {
    stands = change_stands sc w b s.case (bare j) d.stands k names cells only unheld may;
    captured_sole = λ x h. d.captured_sole x (marked_some names x s.captured h).1;
    values =
        let f = marked_fills names (now j) slots (reverse s.captured) j.values w.values d.values in
        let g = fills_same (now j) (now (record j { cells = cells })) refl slots (map (marked names) (reverse s.captured)) j.values w.values
        (λ x u.
        let m = marked_some names x (reverse s.captured) u in
        change_here sc w b s.case (bare j) d.stands k names cells only unheld may x (d.captured_sole x (local_reversed x s.captured m.1)) m.0) f in
        subst (λ z. Fills (now (record j { cells = cells })) slots z j.values w.values) (sym (reversed_map (marked names) s.captured)) g;
  }

  -- a value is computed
  pub push_law : (v : List ℕ) → Describes sc w b (Bare None ∷ slots) s (record j { values = v ∷ j.values })
  push_law v = record { stands = d.stands; captured_sole = d.captured_sole; values = (tt, d.values) }

-- and used, or known, or its symbol is captured
module _ (sc : Scope) (w : World) (b : Level) (known : Option (List ℕ)) (slots : List Slot) (s : State) (j : Job) (d : Describes sc w b (Bare known ∷ slots) s j)
    (v : List ℕ) (more : List (List ℕ)) (e : j.values ≡ v ∷ more) where
  first_fills : IsGiven known v × Fills (now j) slots (reverse s.captured) more w.values
  first_fills = (let f : Fills (now j) (Bare known ∷ slots) (reverse s.captured) (v ∷ more) w.values = subst (λ z. Fills (now j) (Bare known ∷ slots) (reverse s.captured) z w.values) e d.values in f)

  pub drop_law : Describes sc w b slots s (record j { values = more })
  drop_law = record { stands = d.stands; captured_sole = d.captured_sole; values = first_fills.1 }

  pub is_known : IsGiven known v
  is_known = first_fills.0

  pub know_law : (o : Option (List ℕ)) → IsGiven o v → Describes sc w b (Bare o ∷ slots) s j
  know_law o h = record {
    stands = d.stands;
    captured_sole = d.captured_sole;
    values = subst (λ z. Fills (now j) (Bare o ∷ slots) (reverse s.captured) z w.values) (sym e) (h, first_fills.1);
  }

  pub capture_law : (symbol : Sym) → StandsFor (now j) symbol v → ((x : List ℕ) → is_local x symbol ≡ true → sc.is_shared s.case.own x ≡ false)
      → Describes sc w b (Kept ∷ slots) (with_symbol symbol s) j
  capture_law symbol h sole = record {
    stands = d.stands;
    captured_sole = λ x u. ⊎_elim (λ l. d.stands.unshared x (sole x l)) (λ l. d.captured_sole x l) (local_last x s.captured symbol u);
    values =
        subst (λ z. Fills (now j) (Kept ∷ slots) z j.values w.values) (sym (reverse-append s.captured (symbol ∷ [])))
        (subst (λ z. Fills (now j) (Kept ∷ slots) (symbol ∷ reverse s.captured) z w.values) (sym e) (h, first_fills.1));
  }
