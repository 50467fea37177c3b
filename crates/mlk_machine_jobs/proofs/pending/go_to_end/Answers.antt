use Rattle.std.proofs.Common.{List, take, ap, sym, ◌∙◌}
use Rattle.mlk_machine_jobs.specs.declared.pending.Pending.{Pending}
use Rattle.mlk_machine_jobs.specs.Lines.{to_end}
use Rattle.mlk_machine_jobs.specs.JobViews.{tasks_of}
use Rattle.mlk_machine_jobs.proofs.pending.go_to_end.Goals as goal

pub returns-clause-left : goal.returns-clause-left
returns-clause-left c = λ binders.
    ap (tasks_of binders) c.truncate.ensures.items
    ∙ ap (λ (ps : List Pending). tasks_of binders (take c.kept_to_end-kept.result ps)) (sym c.as_slice.ensures.value)
    ∙ c.kept_to_end-kept.ensures.kept binders
    ∙ ap (λ (ps : List Pending). to_end (tasks_of binders ps)) c.as_slice.ensures.value
