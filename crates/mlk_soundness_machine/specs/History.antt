-- The job at the begin of each open frame, and what its tasks say of the blocks and frames that are open. This project's own
-- choice.
use Rattle.std.specs.Prelude.{◌≡◌, ℕ, suc, ◌-◌, nat_lt, Bool, true, false, if◌then◌else◌, List, [], ◌∷◌, ◌++◌, drop, bytes_eq}
use Rattle.mlk_program.specs.declared.entry.EntryId.{EntryId}
use Rattle.mlk_machine_jobs.specs.Bindings.{covers, Fresh, ByReference, Bindings}
use Rattle.mlk_syntax.specs.Trees.{RoutineTree, HeadTree, LineTrees}
use Rattle.mlk_machine_jobs.specs.Calling.{commands_in, lines_after}
use Rattle.mlk_machine_jobs.specs.Tasks.{Task, Job, LineTree, RunLines, RunCommands, Mark, BlockMark, FrameMark, marks}
use Rattle.mlk_soundness_machine.specs.Frames.{Waiting}

-- the values of `$TEST` that the open blocks of the running frame restore, the outermost first; and how names were bound at
-- the begin of each open frame, the innermost first
abbrev pub block_tests : List Mark → List Bool
block_tests [] = []
block_tests (BlockMark back next test ∷ ms) = block_tests ms ++ test ∷ []
block_tests (FrameMark frame back next routine ∷ ms) = []

abbrev pub frame_backs : List Mark → List Bindings
frame_backs [] = []
frame_backs (BlockMark back next test ∷ ms) = frame_backs ms
frame_backs (FrameMark frame back next routine ∷ ms) = back ∷ frame_backs ms

-- the number of open frames
abbrev pub count_frames : List Mark → ℕ
count_frames [] = 0
count_frames (BlockMark back next test ∷ ms) = count_frames ms
count_frames (FrameMark frame back next routine ∷ ms) = suc (count_frames ms)

abbrev pub open_frames : Job → ℕ
open_frames j = count_frames (marks j.tasks)

-- The job at the begin of each open frame, the innermost first: a step by which a frame begins adds the job that it yields,
-- and once a frame has ended, the job at its begin is dropped. `count` is the number of open frames before the step.
abbrev pub begun_since : List Job → ℕ → Job → List Job
begun_since begun count i = if nat_lt count (open_frames i) then i ∷ begun else drop (count - open_frames i) begun

abbrev pub begun_after : List Job → Job → Job → List Job
begun_after begun j i = begun_since begun (open_frames j) i

-- how names were bound at the running frame's begin: no name is bound anew when a job begins
abbrev pub first_back : List Waiting → Bindings
first_back [] = []
first_back (w ∷ ws) = w.bindings

-- the name is a formal that is another's variable
abbrev pub is_reference : Bindings → List ℕ → Bool
is_reference [] n = false
is_reference (Fresh g names ∷ bs) n = if covers names n then false else is_reference bs n
is_reference (ByReference formal cell ∷ bs) n = if bytes_eq formal n then true else is_reference bs n

-- the frame that has begun is one of the entry: the job has the entry's lines to run
pub record BeganAt (routines : List RoutineTree) (e : EntryId) (first : Job) : Type 0 where
  pub head : HeadTree
  pub body : LineTrees
  pub lines : List LineTree
  pub more : List Task
  pub are : lines_after routines e ≡ (head, body) ∷ lines
  pub tasks : first.tasks ≡ RunCommands (commands_in head) (head, body) ∷ RunLines lines ∷ more
