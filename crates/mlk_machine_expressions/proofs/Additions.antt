-- Tasks that are added.
use Rattle.std.proofs.Common.{◌≡◌, List, [], ◌++◌, map, sym, ap, ◌∙◌, append_assoc, append-nil}
use Rattle.mlk_machine_jobs.specs.declared.task.Task.{Task as TaskIn}
use Rattle.mlk_machine_jobs.specs.Tasks.{Task}
use Rattle.mlk_machine_jobs.specs.TaskViews.{Adds, task_of}

pub adds_none : (tasks : List TaskIn) → Adds [] tasks tasks
adds_none tasks = sym (append-nil (map task_of tasks))

-- what is left of a list, once its first element was added
pub adds_more : (p q all : List Task) (old now new : List TaskIn) → map task_of now ++ (p ++ q) ≡ map task_of old ++ all
    → Adds p now new → map task_of new ++ q ≡ map task_of old ++ all
adds_more p q all old now new h k =
    ap (λ (z : List Task). z ++ q) k ∙ append_assoc (map task_of now) p q ∙ h
