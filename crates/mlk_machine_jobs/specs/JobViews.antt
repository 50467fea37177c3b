-- The definition's jobs, from those of the code. This project's own.
use Rattle.std.specs.Prelude.{◌≡◌, ◌≤◌, ℕ, List, [], map, reverse, take, length}
use Rattle.std.specs.Vec.{vec_capacity}
use Rattle.mlk_names.specs.declared.lock_name.LockName.{LockName}
use Rattle.mlk_machine_locks.specs.Counts.{all_lowered}
use Rattle.mlk_machine_jobs.specs.declared.binding.Binder.{Binder as BinderIn}
use Rattle.mlk_machine_jobs.specs.declared.job.Job.{Job as JobIn}
use Rattle.mlk_machine_jobs.specs.declared.pending.Frame.{Frame as FrameIn}
use Rattle.mlk_machine_jobs.specs.declared.pending.Frame.TheVariants as frame
use Rattle.mlk_machine_jobs.specs.declared.pending.Pending.{Pending}
use Rattle.mlk_machine_jobs.specs.declared.pending.Pending.TheVariants as pending
use Rattle.mlk_machine_jobs.specs.Tasks as task
use Rattle.mlk_machine_jobs.specs.Tasks.{Task, Job, Frame, NoValue, AwaitsValue, HasValue}
use Rattle.mlk_machine_jobs.specs.Bindings.{Names, look, killed}
use Rattle.mlk_machine_jobs.specs.Views.{bindings_of, value_at, without}
use Rattle.mlk_machine_jobs.specs.TaskViews.{task_of}

abbrev pub frame_of : FrameIn → Frame
frame_of frame.NoValue = NoValue
frame_of (frame.AwaitsValue test) = AwaitsValue test
frame_of (frame.HasValue test) = HasValue test

-- an end restores as many of the binders as there were
abbrev pub pending_of : List BinderIn → Pending → Task
pending_of binders (pending.Task t) = task_of t
pending_of binders (pending.EndBlock back test) =
    task.EndBlock (bindings_of (take back.binders binders)) back.next test
pending_of binders (pending.EndFrame frame back routine) =
    task.EndFrame (frame_of frame) (bindings_of (take back.binders binders)) back.next routine

-- the last one of the code is done first
abbrev pub tasks_of : List BinderIn → List Pending → List Task
tasks_of binders ps = reverse (map (pending_of binders) ps)

-- each generation has a table, so the number of tables is the first unused generation
abbrev pub job_of : JobIn → Job
job_of j = record {
  number = j.number;
  test = j.test;
  routine = j.routine;
  bindings = bindings_of j.binders.items;
  next = length j.tables.items;
  cells = value_at j.tables.items;
  values = j.values;
  held = j.held;
  tasks = tasks_of j.binders.items j.pending.items;
  stopped = j.stopped;
}

-- the locks that are held after a release
abbrev pub releasing : List LockName → Job → Job
releasing names j = record j { held = all_lowered names j.held }

abbrev pub holding_nothing : Job → Job
holding_nothing j = record j { held = [] }

-- a name loses its value
abbrev pub cleared : List ℕ → Job → Job
cleared name j = record j { cells = without (look j.bindings name) j.cells }

-- KILL of these names
abbrev pub killing : Names → Job → Job
killing names j = record j { cells = killed j.bindings names j.cells }

-- What is pending is kept, and so is the capacity for it.
abbrev pub KeepsPending : JobIn → JobIn → Type 0
KeepsPending old new =
    (new.pending.items ≡ old.pending.items) × (vec_capacity old.pending ≤ vec_capacity new.pending)
