use Rattle.std.proofs.Common.{◌≡◌, ◌++◌, ◌+◌, ◌≤◌, ℕ, List, map}
use Rattle.std.specs.Vec.{vec_len, vec_capacity}
use Rattle.mlk_machine_jobs.specs.declared.binding.Binder.{Binder}
use Rattle.mlk_machine_jobs.specs.JobViews.{tasks_of}
use Rattle.mlk_machine_jobs.specs.Sound.{Stands}
use Rattle.mlk_machine_jobs.specs.TaskViews.{task_of}
use Rattle.mlk_machine_jobs.proofs.pending.do_first.Given as goal

abbrev pub invariant-loop-task : goal.invariant-loop-task
invariant-loop-task l = (vec_len l.pending + vec_len l.left ≤ vec_capacity l.pending)
    × ((binders : List Binder) → map task_of l.left.items ++ tasks_of binders l.pending.items
    ≡ map task_of l.fn.tasks.items ++ tasks_of binders l.fn.pending.items)
    × ((binders : List Binder) (n : ℕ) → Stands binders n l.fn.pending.items → Stands binders n l.pending.items)

abbrev pub decreases-loop-task : goal.decreases-loop-task
decreases-loop-task l = vec_len l.left
