-- Why workers make no report. This project's own choice.
use Rattle.std.specs.Prelude.{ℕ, ◌≡◌, ◌<◌, ◌≤◌, ◌⊎◌, List, Option, Some, slice_get}
use Rattle.std.specs.List.{AllZip}
use Rattle.mlk_text.specs.declared.failure.Failure.{Failure}
use Rattle.mlk_text.specs.declared.failure.Failure.TheVariants as failure
use Rattle.mlk_pool.specs.declared.board.Slot.{Slot}
use Rattle.mlk_pool.specs.declared.board.Slot.TheVariants.{Posted}
use Rattle.mlk_pool.specs.declared.board.Outcome.TheVariants.{NoMemory, Shut}
use Rattle.mlk_pool.specs.declared.report.PoolFault.{PoolFault}
use Rattle.mlk_pool.specs.declared.report.PoolFault.TheVariants as fault
use Rattle.mlk_pool.specs.Given.{Given, tasks_of}
use Rattle.mlk_pool.specs.Boards.{IsSlotOf}

-- There may be 1 to 64 workers.
abbrev pub AreAllowed : ℕ → Type 0
AreAllowed workers = (0 < workers) × (workers ≤ 64)

-- a worker had no memory for the task
abbrev pub HadNoMemory : Option Slot → Type 0
HadNoMemory slot = (worker : ℕ) × (slot ≡ Some (Posted worker NoMemory))

-- a worker found the gate shut before the task
abbrev pub FoundShut : Option Slot → Type 0
FoundShut slot = (worker : ℕ) × (slot ≡ Some (Posted worker Shut))

-- By what workers left at the tasks, this one is the first that is not done: a worker found the gate shut before it, and at no
-- earlier one a worker had no memory. So each earlier one is done, by its worker or by the caller at the end.
pub record IsFirstNotDone (left : List Slot) (task : ℕ) : Type 0 where
  pub shut : FoundShut (slice_get left task)
  pub earlier : (before : ℕ) → before < task → HadNoMemory (slice_get left before) → ⊥

-- By what workers left at the tasks of the run, one slot a task, this one is the first that is not done.
abbrev pub StopsAt : Given → ℕ → Type 0
StopsAt given task = (left : List Slot) × AllZip (IsSlotOf given) (tasks_of given) left × IsFirstNotDone left task

-- The gate, which is not open, was shut before a task of this kind. Want of memory says nothing.
abbrev pub IsShut : Type 0 → (ℕ → Type 0) → Failure PoolFault → Type 0
IsShut is_open IsTask failure.OutOfMemory = Unit {0}
IsShut is_open IsTask (failure.Refused fault.Workers) = ⊥
IsShut is_open IsTask (failure.Refused (fault.GateShut task)) = (is_open → ⊥) × IsTask task

-- The number of workers is none or too large, or the gate, which is not open, was shut before the task at which the run stops.
abbrev pub IsUnreported : Type 0 → Given → Failure PoolFault → Type 0
IsUnreported is_open given failure.OutOfMemory = Unit {0}
IsUnreported is_open given (failure.Refused fault.Workers) = (given.workers ≡ 0) ⊎ (64 < given.workers)
IsUnreported is_open given (failure.Refused (fault.GateShut task)) = (is_open → ⊥) × StopsAt given task
