-- Blocks and frames from begin to end: what is new in one lasts as long as it is open. Restates ISO/IEC 11756, DO, extrinsic
-- functions, NEW, QUIT.
use Rattle.std.specs.Prelude.{◌≡◌, ℕ, ◌<◌, ◌≤◌, Bool, true, false, List, [], ◌∷◌, ◌++◌, length, None, Ok}
use Rattle.mlk_machine_locks.specs.Systems.{Machine, Act, alone, lone_run}
use Rattle.mlk_program.specs.declared.entry.EntryId.{EntryId}
use Rattle.mlk_machine_jobs.specs.declared.choice.Choice.{Choice}
use Rattle.mlk_machine_jobs.specs.Bindings.{Cell}
use Rattle.mlk_machine_jobs.specs.Tasks.{Job, Mark, BlockMark, FrameMark, NoValue, AwaitsValue, HasValue, marks}

-- the number of open blocks and frames
abbrev pub count_open : Job → ℕ
count_open j = length (marks j.tasks)

-- A job within a frame enters a block or a frame by one act; at each moment of further acts it is in there, or in what begins
-- there; and by one more act it leaves again: as many blocks and frames are open as before.
pub record GoesThrough (m : Machine Job Choice EntryId) (j i : Job) : Type 0 where
  pub is_in_frame : 0 < count_open j
  pub goes_in : Act Choice EntryId
  pub first : Job
  pub is_first : alone m goes_in j ≡ Ok first
  pub acts : List (Act Choice EntryId)
  pub last : Job
  pub is_last : lone_run m acts first ≡ Ok last
  pub is_within : (before later : List (Act Choice EntryId)) (k : Job) → acts ≡ before ++ later
      → lone_run m before first ≡ Ok k → count_open j < count_open k
  pub goes_out : Act Choice EntryId
  pub is_out : alone m goes_out last ≡ Ok i
  pub as_many : count_open i ≡ count_open j

-- a block and the frame of an extrinsic call have a `$TEST` of their own; a frame that DO begins has none
abbrev pub has_own_test : List Mark → Bool
has_own_test [] = false
has_own_test (BlockMark back next test ∷ ms) = true
has_own_test (FrameMark NoValue back next routine ∷ ms) = false
has_own_test (FrameMark (AwaitsValue test) back next routine ∷ ms) = true
has_own_test (FrameMark (HasValue test) back next routine ∷ ms) = true

-- Names are bound as before, what was new is gone, and a `$TEST` that was saved is restored.
pub record IsPutBack (j first i : Job) : Type 0 where
  pub bindings : i.bindings ≡ j.bindings
  pub unused : i.next ≡ j.next
  pub forgotten : (c : Cell) → j.next ≤ c.generation → i.cells c ≡ None
  pub test : has_own_test (marks first.tasks) ≡ true → i.test ≡ j.test
