-- Steps that a job makes by itself, one after another.
use Rattle.std.proofs.Common.{◌≡◌, ◌∙◌, ℕ, zero, suc, ◌≤◌, List, Ok, Err, refl, sym, ap, arith}
use Rattle.mlk_machine_locks.specs.declared.refusal.Refusal.{Refusal}
use Rattle.mlk_syntax.specs.Trees.{RoutineTree}
use Rattle.mlk_machine_jobs.specs.Tasks.{Job}
use Rattle.mlk_machine_jobs.specs.Choices.{Stepped}
use Rattle.mlk_machine_jobs.specs.Seen.{state, silent_step, settled_after, settled}

pair_of : {A B : Type 0} {a c : A} {b d : B} → a ≡ c → b ≡ d → ◌≡◌ {A = A × B} (a, b) (c, d)
pair_of e f = λ i. (e i, f i)

module _ (routines : List RoutineTree) where
  abbrev next : Job → Stepped
  next j = silent_step routines j (state routines j)

  abbrev more : ℕ → Job → Job × ℕ
  more n i = settled routines n i

  -- none was made yet
  pub none_made : (j : Job) → settled routines zero j ≡ (j, 0)
  unfolding settled
  none_made j = refl

  goes : (n : ℕ) (j i : Job) → next j ≡ Ok i → settled routines (suc n) j ≡ ((more n i).0, suc (more n i).1)
  unfolding settled
  goes n j i h = ap (settled_after (more n) j) h

  rests : (n : ℕ) (j : Job) (why : Refusal) → next j ≡ Err why → settled routines n j ≡ (j, 0)
  unfolding settled
  rests zero j why h = refl
  rests (suc n) j why h = ap (settled_after (more n) j) h

  -- the first of several steps
  first_made : (n : ℕ) (old j : Job) (s : Stepped) → next old ≡ s → settled routines (suc n) old ≡ (j, suc n)
      → (i : Job) × (next old ≡ Ok i) × (settled routines n i ≡ (j, n))
  first_made n old j (Ok i) e h =
      let f : ◌≡◌ {A = Job × ℕ} ((more n i).0, suc (more n i).1) (j, suc n) = sym (goes n old i e) ∙ h in
      let a : (more n i).0 ≡ j = ap (λ (p : Job × ℕ). p.0) f in
      let b : suc (more n i).1 ≡ suc n = ap (λ (p : Job × ℕ). p.1) f in
      let d : (more n i).1 ≡ n = omega (arith, b) in
      (i, e, pair_of a d)
  first_made n old j (Err why) e h =
      let f : ◌≡◌ {A = Job × ℕ} (old, 0) (j, suc n) = sym (rests (suc n) old why e) ∙ h in
      let b : 0 ≡ suc n = ap (λ (p : Job × ℕ). p.1) f in absurd (omega (arith, b))

  -- one more step
  pub one_more : (n : ℕ) (old j i : Job) → settled routines n old ≡ (j, n) → next j ≡ Ok i
      → settled routines (suc n) old ≡ (i, suc n)
  one_more zero old j i h e =
      let same : old ≡ j = ap (λ (p : Job × ℕ). p.0) (sym (none_made old) ∙ h) in
      goes zero old i (ap next same ∙ e) ∙ ap (λ (p : Job × ℕ). (p.0, suc p.1)) (none_made i)
  one_more (suc n) old j i h e =
      let f = first_made n old j (next old) refl h in
      goes (suc n) old f.0 f.1 ∙ ap (λ (p : Job × ℕ). (p.0, suc p.1)) (one_more n f.0 j i f.2 e)

  -- no more of them
  pub no_more : (n k : ℕ) (old j : Job) (why : Refusal) → settled routines n old ≡ (j, n) → next j ≡ Err why → n ≤ k
      → settled routines k old ≡ (j, n)
  no_more zero k old j why h e l =
      let same : old ≡ j = ap (λ (p : Job × ℕ). p.0) (sym (none_made old) ∙ h) in
      rests k old why (ap next same ∙ e) ∙ ap (λ (i : Job). (i, 0)) same
  no_more (suc n) zero old j why h e l = absurd (omega (arith, l))
  no_more (suc n) (suc k) old j why h e l =
      let f = first_made n old j (next old) refl h in
      goes k old f.0 f.1 ∙ ap (λ (p : Job × ℕ). (p.0, suc p.1)) (no_more n k f.0 j why f.2 e (omega (arith, l)))
