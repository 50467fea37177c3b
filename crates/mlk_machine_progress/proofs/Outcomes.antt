-- What holds of each job that a step can yield, and so at each moment of a run.
use Rattle.std.proofs.Common.{◌≡◌, ℕ, Bool, true, false, List, [], ◌∷◌, Option, Some, None, refl, subst}
use Rattle.std.specs.Prelude.{if◌then◌else◌, Ok, Err}
use Rattle.mlk_machine_locks.specs.declared.refusal.Refusal.{Refusal}
use Rattle.mlk_machine_locks.specs.Systems.{Act, Begin, Go, Abort, alone, lone_run}
use Rattle.mlk_syntax.specs.Trees.{RoutineTree}
use Rattle.mlk_program.specs.declared.entry.EntryId.{EntryId}
use Rattle.mlk_machine_jobs.specs.declared.choice.Choice.{Choice}
use Rattle.mlk_machine_jobs.specs.declared.choice.Choice.TheVariants as choice
use Rattle.mlk_machine_jobs.specs.Tasks.{Job}
use Rattle.mlk_numbers.specs.Operators.{truth_of_text}
use Rattle.mlk_machine_jobs.specs.Choices.{Stepped, without_choice, with_value, with_truth, with_last, truth_or_asked, by_truth, given_or_asked, dropped}
use Rattle.mlk_machine_jobs.specs.Runs.{machine, go, aborted}
use Rattle.mlk_machine_laws.specs.Moments.{AtEachMoment}

module _ (P : Job → Type 0) where
  abbrev pub Each : Stepped → Type 0
  Each s = (i : Job) → s ≡ Ok i → P i

  pub done : (k : Job) → P k → Each (Ok k)
  done k p i e = let f : k ≡ i = cc in subst P f p

  pub refused : (why : Refusal) → Each (Err why)
  refused why i e = cc

  pub unasked : (c : Choice) (s : Stepped) → Each s → Each (without_choice c s)
  unasked choice.None s h i e = h i e
  unasked (choice.Value v) (Ok k) h i e = cc
  unasked (choice.Value v) (Err w) h i e = cc
  unasked (choice.Truth t) (Ok k) h i e = cc
  unasked (choice.Truth t) (Err w) h i e = cc

  pub of_value : (c : Choice) (f : List ℕ → Stepped) → ((v : List ℕ) → Each (f v)) → Each (with_value c f)
  of_value choice.None f h i e = cc
  of_value (choice.Value v) f h i e = h v i e
  of_value (choice.Truth t) f h i e = cc

  pub of_truth : (c : Choice) (f : Bool → Stepped) → ((t : Bool) → Each (f t)) → Each (with_truth c f)
  of_truth choice.None f h i e = cc
  of_truth (choice.Value v) f h i e = cc
  of_truth (choice.Truth t) f h i e = h t i e

  pub of_last : (vs : List (List ℕ)) (f : List ℕ → Stepped) → ((v : List ℕ) → Each (f v)) → Each (with_last vs f)
  of_last [] f h i e = cc
  of_last (v ∷ vs) f h i e = h v i e

  pub of_if : (b : Bool) (s t : Stepped) → Each s → Each t → Each (if b then s else t)
  of_if true s t p q i e = p i e
  of_if false s t p q i e = q i e

  pub of_known : (c : Choice) (o : Option Bool) (f : Bool → Stepped) → ((t : Bool) → Each (f t)) → Each (truth_or_asked c o f)
  of_known c None f h = of_truth c f h
  of_known c (Some t) f h = unasked c (f t) (h t)

  pub of_condition : (c : Choice) (k : Job) (f : Bool → Job → Stepped) → ((t : Bool) → Each (f t (dropped 1 k))) → Each (by_truth c k f)
  of_condition c k f h = of_last k.values _ (λ v. of_known c (truth_of_text v) (λ t. f t (dropped 1 k)) h)

  pub of_result : (c : Choice) (o : Option (List ℕ)) (f : List ℕ → Stepped) → ((v : List ℕ) → Each (f v)) → Each (given_or_asked c o f)
  of_result c None f h = of_value c f h
  of_result c (Some v) f h = unasked c (f v) (h v)

  -- the invariants of each step, each end and each begin
  module _ (routines : List RoutineTree) (declared : EntryId → Bool) (goes : (c : Choice) (j : Job) → P j → Each (go routines (λ _. true) c j))
      (stops : (j : Job) → Each (aborted j j.tasks)) where
    acts_keep : (a : Act Choice EntryId) (j i : Job) → P j → alone (machine routines declared) a j ≡ Ok i → P i
    acts_keep (Begin e test values) j i h s = cc
    acts_keep (Go c) j i h s = goes c j h i s
    acts_keep Abort j i h s = stops j i s

    run_keeps : (acts : List (Act Choice EntryId)) (j i : Job) → P j → lone_run (machine routines declared) acts j ≡ Ok i → P i
    run_keeps [] j i h s = let e : j ≡ i = cc in subst P e h
    run_keeps (x ∷ acts) j i h s = on (alone (machine routines declared) x j) refl (run_keeps acts)
      where
        on : (o : Stepped) → alone (machine routines declared) x j ≡ o → ((k z : Job) → P k → lone_run (machine routines declared) acts k ≡ Ok z → P z) → P i
        on (Err why) e rest = let z : Err why ≡ Ok i = rw e at s in cc
        on (Ok k) e rest = rest k i (acts_keep x j k h e) (rw e at s)

    pub each_moment : ((e : EntryId) (test : Bool) (values : List (Option (List ℕ))) (k : ℕ) → Each ((machine routines declared).begin e test values k))
        → AtEachMoment routines declared P
    each_moment begins e test values k first j acts b r = run_keeps acts first j (begins e test values k first b) r
