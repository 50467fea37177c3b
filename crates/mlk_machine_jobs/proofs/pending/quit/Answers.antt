use Rattle.std.proofs.Common.{ap, ◌∙◌}
use Rattle.mlk_machine_jobs.specs.Lines.{quit_from}
use Rattle.mlk_machine_jobs.proofs.pending.quit.Goals as goal

pub returns-clause-left : goal.returns-clause-left
returns-clause-left c = λ binders.
    c.quit_skipped.ensures.left binders ∙ ap quit_from (c.skip.ensures.left binders)
