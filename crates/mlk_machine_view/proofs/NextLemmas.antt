-- What a job's next task shows, the job shows.
use Rattle.std.proofs.Common.{◌≡◌, ◌∙◌, ◌-◌, ℕ, zero, suc, List, [], ◌∷◌, ◌++◌, length, Some, sym, ap, arith, slice_get}
use Rattle.mlk_syntax.specs.Trees.{RoutineTree}
use Rattle.mlk_machine_jobs.specs.declared.binding.Binder.{Binder}
use Rattle.mlk_machine_jobs.specs.declared.job.Job.{Job as JobIn}
use Rattle.mlk_machine_jobs.specs.declared.pending.Pending.{Pending}
use Rattle.mlk_machine_jobs.specs.declared.pending.Pending.TheVariants as pending
use Rattle.mlk_machine_jobs.specs.declared.task.Task.{Task as TaskIn}
use Rattle.mlk_machine_jobs.specs.JobViews.{job_of, pending_of, tasks_of}
use Rattle.mlk_machine_jobs.specs.Seen.{State, state, state_in}
use Rattle.mlk_machine_jobs.specs.TaskViews.{task_of}
use Rattle.mlk_machine_jobs.specs.Tasks.{Task}
use Rattle.mlk_machine_jobs.proofs.PendingLemmas.{tasks_after}

-- the last of a list, after the others
ends : (k : ℕ) (ps : List Pending) (p : Pending) → suc k ≡ length ps → slice_get ps k ≡ Some p
    → (qs : List Pending) × (ps ≡ qs ++ p ∷ [])
ends k [] p e h = cc
ends zero (q ∷ []) p e h = let i : q ≡ p = cc in ([], ap (λ x. x ∷ []) i)
ends (suc k) (q ∷ []) p e h = cc
ends zero (q ∷ r ∷ ps) p e h = cc
ends (suc k) (q ∷ r ∷ ps) p e h =
    let i = ends k (r ∷ ps) p (omega (arith, e)) h in
    (q ∷ i.0, ap (λ x. q ∷ x) i.1)

first_task : (bs : List Binder) (ps : List Pending) (p : Pending) → slice_get ps (length ps - 1) ≡ Some p
    → (ts : List Task) × (tasks_of bs ps ≡ pending_of bs p ∷ ts)
first_task bs [] p h = cc
first_task bs (q ∷ ps) p h =
    let i = ends (length (q ∷ ps) - 1) (q ∷ ps) p (omega arith) h in
    (tasks_of bs i.0, ap (tasks_of bs) i.1 ∙ tasks_after bs i.0 p)

pub next_shows : (rs : List RoutineTree) (j : JobIn) (t : TaskIn) (s : State)
    → slice_get j.pending.items (length j.pending.items - 1) ≡ Some (pending.Task t)
    → ((ts : List Task) → s ≡ state_in rs (job_of j) (task_of t ∷ ts)) → s ≡ state rs (job_of j)
next_shows rs j t s h shows =
    let i = first_task j.binders.items j.pending.items (pending.Task t) h in
    shows i.0 ∙ ap (state_in rs (job_of j)) (sym i.1)
