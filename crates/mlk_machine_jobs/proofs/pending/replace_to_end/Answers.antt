use Rattle.std.proofs.Common.{List, [], ◌∷◌, ◌++◌, take, ap, sym, ◌∙◌}
use Rattle.mlk_machine_jobs.specs.declared.pending.Pending.{Pending}
use Rattle.mlk_machine_jobs.specs.declared.pending.Pending.TheVariants as pending
use Rattle.mlk_machine_jobs.specs.Tasks.{Task}
use Rattle.mlk_machine_jobs.specs.Lines.{to_end}
use Rattle.mlk_machine_jobs.specs.JobViews.{tasks_of}
use Rattle.mlk_machine_jobs.specs.TaskViews.{task_of}
use Rattle.mlk_machine_jobs.proofs.PendingLemmas.{tasks_after}
use Rattle.mlk_machine_jobs.proofs.pending.replace_to_end.Goals as goal

pub returns-clause-ok : goal.returns-clause-ok
returns-clause-ok c = λ binders.
    ap (tasks_of binders) c.push_reserved.ensures.items
    ∙ tasks_after binders c.truncate.new.self.items (pending.Task c.args.task)
    ∙ ap (λ (ts : List Task). task_of c.args.task ∷ ts) (
    ap (tasks_of binders) c.truncate.ensures.items
    ∙ ap (λ (ps : List Pending). tasks_of binders (take c.kept_to_end-kept.result ps)) (sym c.as_slice.ensures.value)
    ∙ c.kept_to_end-kept.ensures.kept binders
    ∙ ap (λ (ps : List Pending). to_end (tasks_of binders ps)) (c.as_slice.ensures.value ∙ c.reserve.ensures.items)
    )
