-- NEW, and claims and releases.
use Rattle.std.proofs.Common.{◌≡◌, ℕ, suc, ◌+◌, ◌≤◌, true, false, List, [], ◌∷◌, Some, refl, sym, ap, ◌∙◌, subst, arith, ⊎_elim}
use Rattle.std.specs.Prelude.{◌||◌, ◌⊎◌}
use Rattle.std.proofs.lemmas.Bool.{cases_Bool}
use Rattle.mlk_cert_lexemes.specs.Lists.{Each}
use Rattle.mlk_names.specs.declared.lock_name.LockName.{LockName}
use Rattle.mlk_names.specs.declared.term.LockTerm.{LockTerm}
use Rattle.mlk_cert_parts.specs.declared.names.NameSet.{NameSet}
use Rattle.mlk_cert_parts.specs.declared.names.Own.{Own}
use Rattle.mlk_cert_parts.specs.declared.case.Case.{Case}
use Rattle.mlk_machine_locks.specs.Counts.{Counts, count_of}
use Rattle.mlk_machine_jobs.specs.Bindings.{Names, covers, Fresh, ByReference, Bindings, look}
use Rattle.mlk_machine_jobs.specs.Tasks.{Job}
use Rattle.mlk_walk_state.specs.Names.{have, is_own, is_among, without}
use Rattle.mlk_walk_state.specs.Scope.{Scope}
use Rattle.mlk_walk_state.specs.Terms.{mention}
use Rattle.mlk_calls.specs.Changes.{without_kept}
use Rattle.mlk_machine_laws.specs.Sharing.{is_lent}
use Rattle.mlk_machine_laws.specs.Tidy.{Below}
use Rattle.mlk_machine_laws.proofs.Sharing.{Clear}
use Rattle.mlk_machine_laws.proofs.Tidy.{below_more}
use Rattle.mlk_soundness_machine.specs.Frames.{times_waiting}
use Rattle.mlk_soundness_machine.specs.Reads.{now, times, mentions}
use Rattle.mlk_soundness_machine.specs.Described.{World, Level, own_at, bare, Stands}
use Rattle.mlk_soundness_machine.proofs.Sharing.{SharesByOwn}
use Rattle.mlk_soundness_machine.proofs.Reading.{unmentioned, times_same}
use Rattle.mlk_soundness_machine.proofs.Worlds.{without_is}
use Rattle.mlk_soundness_machine.proofs.Calling.{below_lent}

below_clear : (g : ℕ) (n : List ℕ) (bs : Bindings) → Below g bs → Clear g n bs
below_clear g n [] h = h
below_clear g n (Fresh x names ∷ bs) h = (λ u. h.0, below_clear g n bs h.1)
below_clear g n (ByReference f c ∷ bs) h = (h.0, below_clear g n bs h.1)

-- NEW of some names at the level: they are own from then on
module _ (sc : Scope) (w : World) (b : Level) (c : Case) (j : Job) (d : Stands sc w b c (bare j)) (shares : SharesByOwn sc.is_shared sc.is_shared) (news : Names) (names : NameSet) (own : List Own)
    (same : (n : List ℕ) → covers news n ≡ have (names ∷ []) n) (owns : (n : List ℕ) → is_own own n ≡ (covers news n || is_own c.own n))
    (here : (n : List ℕ) → own_at b.level own n ≡ (covers news n || own_at b.level c.own n)) (others : (l : ℕ) → (l ≡ b.level → ⊥) → (n : List ℕ) → own_at l own n ≡ own_at l c.own n)
    (low : Each (λ (o : Own). o.level ≤ b.level) own) (first : (n : List ℕ) → own_at 1 c.own n ≡ true → own_at 1 own n ≡ true)
    (unheld : mention (names ∷ []) c.held ≡ false) where
  abbrev pub renewed : Job
  renewed = record j { bindings = Fresh j.next news ∷ j.bindings; next = suc j.next }

  other : (x : List ℕ) → covers news x ≡ false → look (Fresh j.next news ∷ j.bindings) x ≡ look j.bindings x
  other x u = rw u refl

  held_other : (x : List ℕ) → mentions x c.held ≡ true → covers news x ≡ false
  held_other x h = same x ∙ unmentioned (names ∷ []) x c.held unheld h

  kept_other : (x : List ℕ) → is_among (without (names ∷ []) c.kept) x ≡ true → (is_among c.kept x ≡ true) × (covers news x ≡ false)
  kept_other x h = let q = without_is (names ∷ []) c.kept x h in (q.0, same x ∙ q.1)

  pub new_stands : Stands sc w b (record (without_kept (names ∷ []) c) { own = own }) (bare renewed)
  new_stands = record {
    test = d.test;
    saved = d.saved;
    counts = λ m.
        let a = times_same (now j) (now renewed) refl c.held (λ x h. ap j.cells (other x (held_other x h))) m in
        rw a (d.counts m);
    defined = λ x h. let v = d.defined x h in (v.0, ap j.cells (other x (held_other x h)) ∙ v.1);
    frame = record { front = Fresh j.next news ∷ d.frame.front; split = ap (λ z. Fresh j.next news ∷ z) d.frame.split; bound = λ n. ap (λ z. covers news n || z) (d.frame.bound n) ∙ sym (owns n) };
    block = record { front = Fresh j.next news ∷ d.block.front; split = ap (λ z. Fresh j.next news ∷ z) d.block.split; bound = λ n. ap (λ z. covers news n || z) (d.block.bound n) ∙ sym (here n) };
    outer = λ l ne n. others l ne n ∙ d.outer l ne n;
    low = low;
    formals = λ x h. first x (d.formals x h);
    held_sole = λ x h. subst (λ q. is_lent j.bindings q ≡ false) (sym (other x (held_other x h))) (d.held_sole x h);
    kept_sole = λ x h r. let q = kept_other x h in subst (λ z. is_lent j.bindings z ≡ false) (sym (other x q.1)) (d.kept_sole x q.0 r);
    unshared = λ x h.
        ⊎_elim
        (λ (u : covers news x ≡ true). rw u (below_lent j.next x j.bindings d.older))
        (λ (u : covers news x ≡ false).
        subst (λ z. is_lent j.bindings z ≡ false) (sym (other x u))
        (d.unshared x (shares.by_own c.own own x (sym (owns x ∙ ap (λ z. z || is_own c.own x) u)) ∙ h)))
        (cases_Bool (covers news x));
    kept = λ x h r. let q = kept_other x h in ap j.cells (other x q.1) ∙ d.kept x q.0 r;
    kept_formal = λ x h. d.kept_formal x (kept_other x h).0;
    kept_out = λ x h l g. (let q = kept_other x h in
        ⊎_elim
        (λ (e : (l ≡ b.level)). subst (λ z. own_at z own x ≡ false) (sym e) (here x ∙ ap (λ z. z || own_at b.level c.own x) q.1 ∙ subst (λ z. own_at z c.own x ≡ false) e (d.kept_out x q.0 l g)))
        (λ (e : l ≡ b.level → ⊥). others l e x ∙ d.kept_out x q.0 l g)
        (same_level l b.level));
    guarded = d.guarded;
    numbered = d.numbered;
    running = d.running;
    routine = d.routine;
    ordered = ((λ n u. below_clear j.next n j.bindings d.older), d.ordered);
    older = (omega arith, below_more j.next (suc j.next) (omega arith) j.bindings d.older);
  }
    where
      same_level : (x y : ℕ) → (x ≡ y) ⊎ (x ≡ y → ⊥)
      same_level x y = grind arith

-- the job holds other names: as many more, or less, as the case's terms
module _ (sc : Scope) (w : World) (b : Level) (c : Case) (j : Job) (d : Stands sc w b c (bare j)) (terms : List LockTerm) (held : Counts)
    (counts : (m : LockName) → count_of held m ≡ times (now j) terms m + times_waiting j.cells j.number w.waiting m)
    (defined : (x : List ℕ) → mentions x terms ≡ true → (v : List ℕ) × (j.cells (look j.bindings x) ≡ Some v))
    (sole : (x : List ℕ) → mentions x terms ≡ true → is_lent j.bindings (look j.bindings x) ≡ false) where
  pub hold_stands : Stands sc w b (record c { held = terms }) (bare (record j { held = held }))
  hold_stands = record {
    test = d.test;
    saved = d.saved;
    counts = counts;
    defined = defined;
    frame = d.frame;
    block = d.block;
    outer = d.outer;
    low = d.low;
    formals = d.formals;
    held_sole = sole;
    kept_sole = d.kept_sole;
    unshared = d.unshared;
    kept = d.kept;
    kept_formal = d.kept_formal;
    kept_out = d.kept_out;
    guarded = d.guarded;
    numbered = d.numbered;
    running = d.running;
    routine = d.routine;
    ordered = d.ordered;
    older = d.older;
  }
