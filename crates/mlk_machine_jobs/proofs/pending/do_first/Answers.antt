use Rattle.std.proofs.Common.{List, map, ◌++◌, ap, sym, subst, ◌∙◌, arith}
use Rattle.mlk_machine_jobs.specs.declared.pending.Pending.{Pending}
use Rattle.mlk_machine_jobs.specs.JobViews.{tasks_of}
use Rattle.mlk_machine_jobs.specs.Sound.{Stands}
use Rattle.mlk_machine_jobs.specs.TaskViews.{task_of}
use Rattle.mlk_machine_jobs.proofs.PendingLemmas.{one_pushed, no_tasks}
use Rattle.mlk_machine_jobs.proofs.SoundLemmas.{stands_task}
use Rattle.mlk_machine_jobs.proofs.pending.do_first.Goals as goal

pub loop-task-preserved : goal.loop-task-preserved
loop-task-preserved c = (
  omega (arith, c.loop-task.invariant.0, c.in-Some.ensures.cases, c.push_reserved.ensures.len, c.push_reserved.ensures.capacity),
  λ binders. ap (λ (ps : List Pending). map task_of c.pop.new.self.items ++ tasks_of binders ps) c.push_reserved.ensures.items
      ∙ one_pushed binders c.loop-task.pending.items c.pop.new.self.items c.loop-task.left.items c.in-Some.task _
      c.in-Some.ensures.items (c.loop-task.invariant.1 binders),
  λ binders n h. subst (λ (ps : List Pending). Stands binders n ps) (sym c.push_reserved.ensures.items)
      (stands_task binders n c.loop-task.pending.items c.in-Some.task (c.loop-task.invariant.2 binders n h)),
)

pub returns-clause-ok : goal.returns-clause-ok
returns-clause-ok c = λ binders.
    no_tasks c.loop-task.left.items (tasks_of binders c.loop-task.pending.items)
    (omega (arith, c.loop-task.left.ok, c.in_default.ensures.cases.0))
    ∙ c.loop-task.invariant.1 binders
