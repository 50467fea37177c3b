-- Laws of every run of a program, whatever its jobs do.
use Rattle.std.specs.Prelude.{◌≡◌, ◌↔◌, ◌⊎◌, ℕ, zero, suc, Bool, List, [], Some, Ok, Err}
use Rattle.mlk_names.specs.declared.lock_name.LockName.{LockName}
use Rattle.mlk_machine_locks.specs.declared.refusal.Refusal.TheVariants.{NotEnabled}
use Rattle.mlk_machine_locks.specs.Systems.{and_then}
use Rattle.mlk_machine_locks.specs.Laws as any
use Rattle.mlk_syntax.specs.Trees.{RoutineTree}
use Rattle.mlk_program.specs.declared.entry.EntryId.{EntryId}
use Rattle.mlk_machine_jobs.specs.declared.choice.Choice.{Choice}
use Rattle.mlk_machine_jobs.specs.declared.choice.Choice.TheVariants as choice
use Rattle.mlk_machine_jobs.specs.Choices.{Stepped}
use Rattle.mlk_machine_jobs.specs.Seen.{Silent, state, settled}
use Rattle.mlk_machine_jobs.specs.Tasks.{Job}
use Rattle.mlk_machine_jobs.specs.Runs.{machine, go, aborted, seen}

-- In every run no two jobs hold conflicting names.
abbrev pub HeldApart : Type 0
HeldApart = (routines : List RoutineTree) (declared : EntryId → Bool) → any.HeldApart (machine routines declared)

-- In every run no two jobs have the same number.
abbrev pub NumbersDistinct : Type 0
NumbersDistinct = (routines : List RoutineTree) (declared : EntryId → Bool) → any.NumbersDistinct (machine routines declared)

-- Each job of a run is the result of its own acts.
abbrev pub OneRunOfMany : Type 0
OneRunOfMany = (routines : List RoutineTree) (declared : EntryId → Bool) → any.OneRunOfMany (machine routines declared)

-- Without the events of one job, a run is a run of the others.
abbrev pub LeavingOut : Type 0
LeavingOut = (routines : List RoutineTree) (declared : EntryId → Bool) → any.LeavingOut (machine routines declared)

-- An event of one job changes no other job.
abbrev pub ChangesOne : Type 0
ChangesOne = (routines : List RoutineTree) (declared : EntryId → Bool) → any.ChangesOne (machine routines declared)

-- The test for rings finds one exactly if there is one.
abbrev pub RingsAreFound : Type 0
RingsAreFound = any.RingsAreFound seen

-- A job that has ended, or was stopped, takes no event.
pub record EndedTakesNone (routines : List RoutineTree) (j : Job) : Type 0 where
  pub goes_not : (free : LockName → Bool) (c : Choice) → go routines free c j ≡ Err NotEnabled
  pub aborts_not : aborted j j.tasks ≡ Err NotEnabled

abbrev pub EndedStays : Type 0
EndedStays = (routines : List RoutineTree) (j : Job) → j.tasks ≡ [] → EndedTakesNone routines j

-- n steps without a choice, given which names are free
abbrev pub goes : List RoutineTree → (LockName → Bool) → ℕ → Job → Stepped
goes routines free zero j = Ok j
goes routines free (suc n) j = and_then (goes routines free n) (go routines free choice.None j)

-- A job that runs by itself makes the same steps whatever names are free; it stops when its next task is not silent, or when it
-- has made the maximum number of steps.
pub record Settles (routines : List RoutineTree) (most : ℕ) (j : Job) : Type 0 where
  pub by_steps : (free : LockName → Bool)
      → goes routines free (settled routines most j).1 j ≡ Ok (settled routines most j).0
  pub stops : (state routines (settled routines most j).0 ≡ Silent → ⊥) ⊎ ((settled routines most j).1 ≡ most)

abbrev pub SettlesBySteps : Type 0
SettlesBySteps = (routines : List RoutineTree) (most : ℕ) (j : Job) → Settles routines most j
