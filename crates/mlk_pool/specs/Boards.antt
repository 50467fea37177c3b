-- What every board keeps. This project's own choice.
use Rattle.std.specs.Prelude.{ℕ, ◌≡◌, ◌+◌, ◌≤◌, ◌<◌, Bool, true, false, List, [], ◌∷◌, Vec, Option, Some}
use Rattle.std.specs.Prelude.{None, length, map, replicate, slice_get, sum_by, vec_capacity, vec_len}
use Rattle.std.specs.List.{AllZip}
use Rattle.std.specs.declared.alloc.Global.{Global}
use Rattle.mlk_program.specs.declared.entry.EntryId.{EntryId}
use Rattle.mlk_pool.specs.declared.board.Slot.{Slot}
use Rattle.mlk_pool.specs.declared.board.Slot.TheVariants.{Open, Claimed, Posted}
use Rattle.mlk_pool.specs.declared.board.Outcome.{Outcome}
use Rattle.mlk_pool.specs.declared.board.Outcome.TheVariants.{Done, NoMemory, Shut}
use Rattle.mlk_pool.specs.declared.board.Event.{Event}
use Rattle.mlk_pool.specs.Shown.{Shown}
use Rattle.mlk_pool.specs.Given.{Given, tasks_of, verdict_of}
use Rattle.mlk_pool.specs.Histories.{Stage, Unclaimed, ClaimedBy, PostedBy, IsHistory, stages_at_end}

-- What is posted of a task is its verdict, or that there was no memory for it, or that the gate was shut.
abbrev pub IsOutcomeOf : Given → EntryId → Outcome → Type 0
IsOutcomeOf given e (Done verdict) = verdict ≡ verdict_of given e
IsOutcomeOf given e NoMemory = Unit {0}
IsOutcomeOf given e Shut = Unit {0}

abbrev pub IsSlotOf : Given → EntryId → Slot → Type 0
IsSlotOf given e Open = Unit {0}
IsSlotOf given e (Claimed worker) = Unit {0}
IsSlotOf given e (Posted worker outcome) = IsOutcomeOf given e outcome

abbrev pub stage_of : Slot → Stage
stage_of Open = Unclaimed
stage_of (Claimed worker) = ClaimedBy worker
stage_of (Posted worker outcome) = PostedBy worker

-- The log is a history from a board with that many unclaimed tasks on, and the slots are as it leaves them.
pub record IsLogOf (log : List Event) (slots : List Slot) : Type 0 where
  pub history : IsHistory (replicate (length slots) Unclaimed) log
  pub stages : map stage_of slots ≡ stages_at_end (replicate (length slots) Unclaimed) log

-- how many events a task can still have
abbrev pub events_left : Slot → ℕ
events_left Open = 2
events_left (Claimed worker) = 1
events_left (Posted worker outcome) = 0

-- `next` is the least task that is not claimed, or their number; the log has room for all events that are left.
pub record IsKept (given : Given) (tasks : List EntryId) (next : ℕ) (slots : Vec Slot Global) (log : Vec Event Global) : Type 0 where
  pub tasks_are : tasks ≡ tasks_of given
  pub right : AllZip (IsSlotOf given) tasks slots.items
  pub logged : IsLogOf log.items slots.items
  pub long : length slots.items ≡ length tasks
  pub within : next ≤ length tasks
  pub later : (task : ℕ) → next ≤ task → task < length slots.items → slice_get slots.items task ≡ Some Open
  pub earlier : (task : ℕ) → task < next → slice_get (map stage_of slots.items) task ≡ Some Unclaimed → ⊥
  pub room : vec_len log + sum_by events_left slots.items ≤ vec_capacity log

abbrev pub shown_of : Vec Slot Global → Vec Event Global → Shown
shown_of slots log = record { slots = slots.items; log = log.items }

-- the slot of an entry's task, if it is one, and the slots of the later tasks
abbrev pub next_slot : Bool → List Slot → Option Slot × List Slot
next_slot false slots = (None, slots)
next_slot true [] = (None, [])
next_slot true (slot ∷ slots) = (Some slot, slots)
