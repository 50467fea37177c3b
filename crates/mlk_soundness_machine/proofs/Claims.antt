-- The next claim is in order.
use Rattle.std.proofs.Common.{◌≡◌, ℕ, suc, ◌+◌, ◌<◌, ◌≤◌, true, false, List, [], ◌∷◌, Option, Some, None, refl, ap, ◌∙◌, subst, arith, ⊎_elim, inl, inr}
use Rattle.std.specs.Prelude.{◌⊎◌, Contains}
use Rattle.std.specs.List.{list_all}
use Rattle.std.proofs.lemmas.Bool.{cases_Bool, or_cases}
use Rattle.std.proofs.lemmas.Bool.Decides.{nat_tests}
use Rattle.mlk_names.specs.declared.lock_name.LockName.{LockName}
use Rattle.mlk_names.specs.declared.term.LockTerm.{LockTerm}
use Rattle.mlk_names.specs.Terms.{IsPrefix}
use Rattle.mlk_names.proofs.TermLemmas.{names_above}
use Rattle.mlk_rules.specs.declared.family.Family.{Family}
use Rattle.mlk_rules.specs.Computed.{is_prefix}
use Rattle.mlk_rules.specs.Ranks.{NameHasRank, FamiliesApart}
use Rattle.mlk_rules.specs.Laws.{RankedOnce}
use Rattle.mlk_rules.proofs.Computing.{prefix_decides}
use Rattle.mlk_cert_parts.specs.declared.case.Case.{Case}
use Rattle.mlk_machine_locks.specs.Waiting.{Holds}
use Rattle.mlk_machine_locks.proofs.NameLemmas.{same_self}
use Rattle.mlk_machine_jobs.specs.Tasks.{Job}
use Rattle.mlk_machine_jobs.specs.Runs.{seen}
use Rattle.mlk_walk_state.specs.Scope.{Scope}
use Rattle.mlk_walk_state.specs.Terms.{rank_of, is_within}
use Rattle.mlk_walk_state.proofs.TermTests.{rank_decides}
use Rattle.mlk_calls.specs.Calls.{ranks_below}
use Rattle.mlk_calls.specs.Claims.{is_low_enough, is_below, all_ranked_below, ranked_fault, claim_fault}
use Rattle.mlk_machine_laws.specs.Order.{IsOwn, IsAboveAll}
use Rattle.mlk_machine_laws.specs.Sharing.{is_lent}
use Rattle.mlk_soundness_machine.specs.Frames.{times_waiting}
use Rattle.mlk_soundness_machine.specs.Reads.{now, name_of, times}
use Rattle.mlk_soundness_machine.specs.Described.{World, Level, IsWorld, bare, Stands}
use Rattle.mlk_soundness_machine.proofs.Reading.{differs}
use Rattle.mlk_soundness_machine.proofs.Worlds.{guarded_map, waiting_kept}
use Rattle.mlk_soundness_machine.proofs.Held.{each_held}
use Rattle.mlk_soundness_machine.proofs.Ranks.{names_it, ranked_below}

below_same : (families : List Family) (rank : ℕ) (held : List LockTerm) → all_ranked_below families held rank ≡ true → list_all (λ t. ranks_below (Some rank) (rank_of families t)) held ≡ true
below_same families rank held h = subst (λ z. z ≡ true) (same held) h
  where
    one : (o : Option ℕ) → is_below o rank ≡ ranks_below (Some rank) o
    one None = refl
    one (Some r) = refl

    same : (held : List LockTerm) → all_ranked_below families held rank ≡ list_all (λ t. ranks_below (Some rank) (rank_of families t)) held
    same [] = refl
    same (t ∷ held) = let a = one (rank_of families t) in let b = same held in rw (a, b) refl

within_one : (held : List LockTerm) (t : LockTerm) → is_within held t ≡ true → (h : LockTerm) × Contains held h × IsPrefix h t
within_one [] t e = differs false e refl
within_one (h ∷ held) t e =
    ⊎_elim
    (λ (u : is_prefix h t ≡ true). (h, (0, omega arith, refl), (prefix_decides h t).0 u))
    (λ (u : is_within held t ≡ true). let r = within_one held t u in (r.0, (suc r.1.0, omega (arith, r.1.1), r.1.2), r.2))
    (or_cases (is_prefix h t) (is_within held t) e)

module _ (sc : Scope) (w : World) (b : Level) (c : Case) (j : Job) (d : Stands sc w b c (bare j)) (k : IsWorld sc w) (apart : FamiliesApart sc.rules.families) (once : RankedOnce sc.rules.families) where
  -- each held name, here or in a waiting frame, has a rank below
  held_below : (rank : ℕ) → all_ranked_below sc.rules.families c.held rank ≡ true → is_low_enough sc.summary.low (Some rank) ≡ true → (m : LockName) → Holds (seen j) m
      → (r : ℕ) × NameHasRank sc.rules.families m r × (r < rank)
  held_below rank all low m h =
      ⊎_elim
      (λ (u : 0 < times (now j) c.held m). ranked_below (now j) sc.rules.families apart once rank c.held (below_same sc.rules.families rank c.held all) m u)
      (λ (u : 0 < times_waiting j.cells j.number w.waiting m). from sc.summary.low refl low u)
      (either (times (now j) c.held m) (times_waiting j.cells j.number w.waiting m) (subst (λ z. 0 < z) (d.counts m) h))
    where
      either : (x y : ℕ) → 0 < x + y → (0 < x) ⊎ (0 < y)
      either x y g = grind arith

      saved : times_waiting j.cells j.number w.waiting m ≡ times_waiting w.saved w.number w.waiting m
      saved =
          waiting_kept w.saved j.cells j.number w.waiting k.rests (guarded_map (λ e. (j.cells e ≡ w.saved e) × (is_lent j.bindings e ≡ false)) (λ e. j.cells e ≡ w.saved e) (λ e g. g.0) w.waiting d.guarded) m
          ∙ ap (λ z. times_waiting w.saved z w.waiting m) d.numbered

      from : (o : Option ℕ) → sc.summary.low ≡ o → is_low_enough o (Some rank) ≡ true → 0 < times_waiting j.cells j.number w.waiting m → (r : ℕ) × NameHasRank sc.rules.families m r × (r < rank)
      from None e g u = differs false g refl
      from (Some l) e g u =
          let r = k.ranks l e m (subst (λ z. 0 < z) saved u) in
          let le : l ≤ rank = grind (arith, nat_tests, g) in
          (r.0, r.1, (let lt = r.2 in omega (arith, le, lt)))

  -- so what is claimed is in order, if the walk finds nothing wrong with it
  pub claims_in_order : (t : LockTerm) (n : LockName) → name_of (now j) t ≡ Some n → claim_fault sc false c.held t ≡ None → IsOwn (seen j) n ⊎ IsAboveAll sc.rules.families (seen j) n
  claims_in_order t n name h = on (rank_of sc.rules.families t) refl h
    where
      on : (o : Option ℕ) → rank_of sc.rules.families t ≡ o → ranked_fault sc false c.held t o ≡ None → IsOwn (seen j) n ⊎ IsAboveAll sc.rules.families (seen j) n
      on None e g = let z : Some _ ≡ None = g in absurd (cc z)
      on (Some rank) e g =
          ⊎_elim
          (λ (u : is_within c.held t ≡ true).
          let r = within_one c.held t u in
          let i = each_held j c.held (times_waiting j.cells j.number w.waiting) d.counts d.defined same_self r.0 r.1 in
          inl (i.name, i.holds, names_above r.0 t r.2 (now j) i.name n i.names (names_it (now j) t n name)))
          (λ (u : is_within c.held t ≡ false).
          ⊎_elim
          (λ (v : all_ranked_below sc.rules.families c.held rank ≡ true).
          ⊎_elim
          (λ (x : is_low_enough sc.summary.low (Some rank) ≡ true).
          inr (record { rank = rank; has = once.names (now j) t n rank ((rank_decides sc.rules.families t rank apart).0 e) (names_it (now j) t n name); above = held_below rank v x }))
          (λ (x : is_low_enough sc.summary.low (Some rank) ≡ false). let z : Some _ ≡ None = (rw (u, v, x) at g) in absurd (cc z))
          (cases_Bool (is_low_enough sc.summary.low (Some rank))))
          (λ (v : all_ranked_below sc.rules.families c.held rank ≡ false). let z : Some _ ≡ None = (rw (u, v) at g) in absurd (cc z))
          (cases_Bool (all_ranked_below sc.rules.families c.held rank)))
          (cases_Bool (is_within c.held t))
