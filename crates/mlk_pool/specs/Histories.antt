-- How the tasks of a board are claimed and posted, event by event. This project's own choice.
use Rattle.std.specs.Prelude.{ℕ, ◌≡◌, ◌<◌, List, [], ◌∷◌, Some, slice_get, slice_set}
use Rattle.mlk_pool.specs.declared.board.Event.{Event}
use Rattle.mlk_pool.specs.declared.board.Event.TheVariants.{Claim, Post}

-- how far a task has come, and by which worker
pub data Stage : Type 0 where
  Unclaimed : Stage
  ClaimedBy : ℕ → Stage
  PostedBy : ℕ → Stage

abbrev pub AreAllClaimed : List Stage → Type 0
AreAllClaimed stages = (task : ℕ) → slice_get stages task ≡ Some Unclaimed → ⊥

-- the task is the least that is not yet claimed
abbrev pub IsNext : List Stage → ℕ → Type 0
IsNext stages task = (slice_get stages task ≡ Some Unclaimed)
    × ((earlier : ℕ) → earlier < task → slice_get stages earlier ≡ Some Unclaimed → ⊥)

-- A worker claims the next task, and posts one that it has claimed and not yet posted.
abbrev pub MayFollow : List Stage → Event → Type 0
MayFollow stages (Claim worker task) = IsNext stages task
MayFollow stages (Post worker task) = slice_get stages task ≡ Some (ClaimedBy worker)

abbrev pub stages_after : List Stage → Event → List Stage
stages_after stages (Claim worker task) = slice_set stages task (ClaimedBy worker)
stages_after stages (Post worker task) = slice_set stages task (PostedBy worker)

-- The events are a history from these stages on: each may follow those before it.
abbrev pub IsHistory : List Stage → List Event → Type 0
IsHistory stages [] = Unit {0}
IsHistory stages (e ∷ log) = MayFollow stages e × IsHistory (stages_after stages e) log

-- the stages after all events
abbrev pub stages_at_end : List Stage → List Event → List Stage
stages_at_end stages [] = stages
stages_at_end stages (e ∷ log) = stages_at_end (stages_after stages e) log
