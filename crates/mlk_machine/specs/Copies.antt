-- What a copy of a job preserves: of a task what the definition sees of it, of an end everything, of a table its values. For
-- clauses of private calls. This project's own.
use Rattle.std.specs.Prelude.{ℕ, Bool, List, Option}
use Rattle.mlk_machine_jobs.specs.declared.cell.CellTable.{CellTable}
use Rattle.mlk_machine_jobs.specs.declared.pending.Back.{Back}
use Rattle.mlk_machine_jobs.specs.declared.pending.Frame.{Frame}
use Rattle.mlk_machine_jobs.specs.declared.pending.Pending.{Pending}
use Rattle.mlk_machine_jobs.specs.declared.pending.Pending.TheVariants as pending
use Rattle.mlk_machine_jobs.specs.Tasks.{Task}
use Rattle.mlk_machine_jobs.specs.TaskViews.{task_of}
use Rattle.mlk_machine_jobs.specs.Views.{in_table}

pub data Shown : Type 0 where
  ToDo : (task : Task) → Shown
  BlockEnd : (back : Back) → (test : Bool) → Shown
  FrameEnd : (frame : Frame) → (back : Back) → (routine : ℕ) → Shown

abbrev pub shown_of : Pending → Shown
shown_of (pending.Task t) = ToDo (task_of t)
shown_of (pending.EndBlock back test) = BlockEnd back test
shown_of (pending.EndFrame frame back routine) = FrameEnd frame back routine

abbrev pub values_in : CellTable → List ℕ → Option (List ℕ)
values_in t n = in_table t n
