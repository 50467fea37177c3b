-- What a step yields.
use Rattle.std.proofs.Common.{◌≡◌, ℕ, Bool, true, false, List, [], ◌∷◌, Option, Some, None, Ok, Err, refl, subst}
use Rattle.std.specs.Prelude.{if◌then◌else◌}
use Rattle.mlk_machine_locks.specs.declared.refusal.Refusal.{Refusal}
use Rattle.mlk_machine_jobs.specs.declared.choice.Choice.{Choice}
use Rattle.mlk_machine_jobs.specs.declared.choice.Choice.TheVariants as choice
use Rattle.mlk_machine_jobs.specs.Tasks.{Job}
use Rattle.mlk_machine_jobs.specs.Choices.{Stepped, without_choice, with_value, with_truth, with_last, truth_or_asked, given_or_asked}

module _ (P : Job → Type 0) where
  -- whatever job the step yields has `P`
  abbrev pub Comes : Stepped → Type 0
  Comes s = (i : Job) → s ≡ Ok i → P i

  pub done : (k : Job) → P k → Comes (Ok k)
  done k h i e = let f : k ≡ i = cc in subst P f h

  pub refused : (why : Refusal) → Comes (Err why)
  refused why i e = cc

  pub unasked : (c : Choice) (s : Stepped) → Comes s → Comes (without_choice c s)
  unasked choice.None s h i e = h i e
  unasked (choice.Value v) (Ok k) h i e = cc
  unasked (choice.Value v) (Err w) h i e = cc
  unasked (choice.Truth t) (Ok k) h i e = cc
  unasked (choice.Truth t) (Err w) h i e = cc

  pub of_value : (c : Choice) (f : List ℕ → Stepped) → ((v : List ℕ) → Comes (f v)) → Comes (with_value c f)
  of_value choice.None f h i e = cc
  of_value (choice.Value v) f h i e = h v i e
  of_value (choice.Truth t) f h i e = cc

  pub of_truth : (c : Choice) (f : Bool → Stepped) → ((t : Bool) → Comes (f t)) → Comes (with_truth c f)
  of_truth choice.None f h i e = cc
  of_truth (choice.Value v) f h i e = cc
  of_truth (choice.Truth t) f h i e = h t i e

  pub of_last : (vs : List (List ℕ)) (f : List ℕ → Stepped) → ((v : List ℕ) (more : List (List ℕ)) → vs ≡ v ∷ more → Comes (f v)) → Comes (with_last vs f)
  of_last [] f h i e = cc
  of_last (v ∷ vs) f h i e = h v vs refl i e

  pub of_result : (c : Choice) (o : Option (List ℕ)) (f : List ℕ → Stepped) → ((v : List ℕ) → ((u : List ℕ) → o ≡ Some u → v ≡ u) → Comes (f v)) → Comes (given_or_asked c o f)
  of_result c None f h = of_value c f (λ v. h v (λ u e. cc))
  of_result c (Some v) f h = unasked c (f v) (h v (λ u e. cc))

  pub of_if : (b : Bool) (s t : Stepped) → Comes s → Comes t → Comes (if b then s else t)
  of_if true s t p q = p
  of_if false s t p q = q

  -- a truth, which is the known one
  pub of_known : (c : Choice) (o : Option Bool) (f : Bool → Stepped) → ((t : Bool) → ((u : Bool) → o ≡ Some u → t ≡ u) → Comes (f t)) → Comes (truth_or_asked c o f)
  of_known c None f h = of_truth c f (λ t. h t (λ u e. cc))
  of_known c (Some t) f h = unasked c (f t) (h t (λ u e. cc))
