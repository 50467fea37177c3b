-- The begin of frames. This project's own.
use Rattle.std.specs.Prelude.{ℕ, suc, Bool, true, false, if◌then◌else◌, List, [], ◌∷◌, ◌++◌, Option, Some, bytes_eq}
use Rattle.mlk_names.specs.declared.lock_name.LockName.{LockName}
use Rattle.mlk_syntax.specs.ExprTrees.{ActualTree, Given, ByRef, Missing}
use Rattle.mlk_machine_jobs.specs.Bindings.{Binder, Bindings, Cells}
use Rattle.mlk_machine_jobs.specs.Tasks as task
use Rattle.mlk_machine_jobs.specs.Tasks.{Task, Job, LineTree, Frame, NoValue, AwaitsValue, RunLines, RunCommands, EndFrame}
use Rattle.mlk_machine_jobs.specs.Calling.{commands_in}

abbrev pub is_given : ActualTree → Bool
is_given (Given t) = true
is_given (ByRef column name) = false
is_given Missing = false

-- the values of the names of one generation
abbrev pub Held : Type 0
Held = List ℕ → Option (List ℕ)

abbrev pub with_held : List ℕ → List ℕ → Held → Held
with_held name value held n = if bytes_eq name n then Some value else held n

-- the formals that are passed by value have their values
abbrev pub filled : List (List ℕ) → List ActualTree → List (List ℕ) → Held → Held
filled (f ∷ formals) (Given t ∷ given) (v ∷ values) held = filled formals given values (with_held f v held)
filled (f ∷ formals) (ByRef column name ∷ given) values held = filled formals given values held
filled (f ∷ formals) (Missing ∷ given) values held = filled formals given values held
filled formals given values held = held

-- the first formals have the given values
abbrev pub filled_first : List (List ℕ) → List (List ℕ) → Held → Held
filled_first (f ∷ formals) (v ∷ values) held = filled_first formals values (with_held f v held)
filled_first formals values held = held

-- the tasks of a frame: its line, the lines after it, and its end, which restores the given bindings
abbrev pub begun_tasks : Frame → Bindings → ℕ → ℕ → LineTree → List LineTree → List Task
begun_tasks frame back next routine l lines =
    RunCommands (commands_in l.0) l ∷ RunLines lines ∷ EndFrame frame back next routine ∷ []

-- a frame begins at a line, with the given binders and values of cells
abbrev pub frame_begun : Frame → ℕ → LineTree → List LineTree → List Binder → Cells → Job → Job
frame_begun frame r l lines found cells j = record j {
  routine = r;
  bindings = found ++ j.bindings;
  next = suc j.next;
  cells = cells;
  tasks = RunCommands (commands_in l.0) l ∷ RunLines lines ∷ EndFrame frame j.bindings j.next j.routine ∷ j.tasks;
}

-- the names of the claim that is the first task, if it is one
abbrev pub claimed_in : List Task → List LockName
claimed_in (task.Claim names timed ∷ ts) = names
claimed_in ts = []

-- what a frame owes
abbrev pub owed : Bool → Bool → Frame
owed true test = AwaitsValue test
owed false test = NoValue
