-- Claims, by whether their names are free.
use Rattle.std.proofs.Common.{◌≡◌, Bool, true, false, List, refl, sym, ap, inl, inr}
use Rattle.std.specs.List.{list_all}
use Rattle.std.proofs.lemmas.Bool.{cases_Bool}
use Rattle.mlk_names.specs.declared.lock_name.LockName.{LockName}
use Rattle.mlk_machine_locks.specs.Counts.{has_room}
use Rattle.mlk_machine_jobs.specs.declared.choice.Choice.{Choice}
use Rattle.mlk_machine_jobs.specs.declared.choice.Choice.TheVariants as choice
use Rattle.mlk_machine_jobs.specs.Tasks.{Job}
use Rattle.mlk_machine_jobs.specs.Choices.{without_choice}
use Rattle.mlk_machine_jobs.specs.Locking.{granted, claim_step}
use Rattle.mlk_machine_steps.specs.Steps.{granted_if, claim_if}

pub granted_by : (free : LockName → Bool) (names : List LockName) (j : Job) (b : Bool) → list_all free names ≡ b
    → granted_if b names j ≡ granted free names j
granted_by free names j true e = elim (cases_Bool (has_room names j.held)) [
  | inl r ↦ rw (e, r) refl
  | inr r ↦ rw (e, r) refl
]
granted_by free names j false e = rw e refl

pub claimed_by : (free : LockName → Bool) (c : Choice) (names : List LockName) (timed b : Bool) (j : Job)
    → list_all free names ≡ b → claim_step free c names timed j ≡ claim_if b c names timed j
claimed_by free c names false b j e = ap (without_choice c) (sym (granted_by free names j b e))
claimed_by free choice.None names true b j e = refl
claimed_by free (choice.Value value) names true b j e = refl
claimed_by free (choice.Truth true) names true b j e = sym (granted_by free names (record j { test = true }) b e)
claimed_by free (choice.Truth false) names true b j e = refl
