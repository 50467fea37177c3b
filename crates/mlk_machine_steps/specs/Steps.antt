-- Results of steps of the code. This project's own.
use Rattle.std.specs.Prelude.{ℕ, suc, Bool, true, false, List, ◌∷◌, length, reverse, Option, Some, None, Result, Ok, Err}
use Rattle.mlk_names.specs.declared.lock_name.LockName.{LockName}
use Rattle.mlk_machine_locks.specs.declared.refusal.Refusal.{Refusal}
use Rattle.mlk_machine_locks.specs.declared.refusal.Refusal.TheVariants.{NotEnabled}
use Rattle.mlk_machine_locks.specs.Counts.{Counts}
use Rattle.mlk_machine_locks.specs.Counts as counts
use Rattle.mlk_machine_locks.specs.Systems.{and_then}
use Rattle.mlk_machine_jobs.specs.declared.choice.Choice.{Choice}
use Rattle.mlk_machine_jobs.specs.declared.binding.Binder.{Binder as BinderIn}
use Rattle.mlk_machine_jobs.specs.declared.job.Job.{Job as JobIn}
use Rattle.mlk_machine_jobs.specs.declared.pending.Back.{Back}
use Rattle.mlk_machine_jobs.specs.declared.pending.Pending.{Pending}
use Rattle.mlk_machine_jobs.specs.Bindings.{Names, Bindings, Fresh}
use Rattle.mlk_machine_jobs.specs.Calling.{back_to}
use Rattle.mlk_machine_jobs.specs.Tasks.{Job}
use Rattle.mlk_machine_jobs.specs.Choices.{Stepped, without_choice, with_truth}
use Rattle.mlk_machine_jobs.specs.Locking.{tested}
use Rattle.mlk_machine_jobs.specs.Sound.{IsWithin, AreNested}

-- the locks that are held after a claim, if the names are free and the counts allow it
abbrev pub held_if : Bool → Option Counts → Result Counts Refusal
held_if true (Some held) = Ok held
held_if true None = Err NotEnabled
held_if false held = Err NotEnabled

abbrev pub holding : Job → Counts → Stepped
holding j held = Ok (record j { held = held })

abbrev pub granted_if : Bool → List LockName → Job → Stepped
granted_if are_free names j = and_then (holding j) (held_if are_free (counts.claimed names j.held))

abbrev pub timed_if : Bool → List LockName → Job → Bool → Stepped
timed_if are_free names j true = granted_if are_free names (tested true j)
timed_if are_free names j false = Ok (tested false j)

-- a claim, given whether the names are free
abbrev pub claim_if : Bool → Choice → List LockName → Bool → Job → Stepped
claim_if are_free c names false j = without_choice c (granted_if are_free names j)
claim_if are_free c names true j = with_truth c (timed_if are_free names j)

-- the names are bound to new cells
abbrev pub made_new : Names → Job → Job
made_new names j = record j { bindings = Fresh j.next names ∷ j.bindings; next = suc j.next }

-- A job after restoring what an end restores, where the end itself is done. About the binders, the number of tables, and the
-- pending items.
pub record AreBack (bs : List BinderIn) (n : ℕ) (ps : List Pending) (back : Back) : Type 0 where
  pub within : IsWithin bs (length bs) n back
  pub nested : AreNested bs back.binders back.next (reverse ps)

abbrev pub IsBack : Back → JobIn → Type 0
IsBack back j = AreBack j.binders.items (length j.tables.items) j.pending.items back

-- names and the routine are restored to the begin of a frame
abbrev pub left_to : Bindings → ℕ → ℕ → Job → Job
left_to back next routine j = record (back_to back next j) { routine = routine }
