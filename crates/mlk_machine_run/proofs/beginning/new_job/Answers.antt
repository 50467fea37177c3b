use Rattle.std.proofs.Common.{◌∙◌, List, [], ◌∷◌, ◌++◌, reverse, ap}
use Rattle.mlk_machine_jobs.specs.declared.cell.CellTable.{CellTable}
use Rattle.mlk_machine_run.proofs.FrameLemmas.{blank_job}
use Rattle.mlk_machine_run.proofs.beginning.new_job.Goals as goal

pub returns-clause-job : goal.returns-clause-job
returns-clause-job c =
    blank_job c.args.number c.args.test c.new-2.result.items c.push.new.self.items c.new.result c.of.result c.new-4.result
    c.new-5.result.items c.new-2.ensures.items
    (c.in-Ok.ensures.items ∙ ap (λ (ts : List CellTable). ts ++ c.new.result ∷ []) c.new-tables.ensures.items) c.new.ensures
    (c.of.ensures ∙ ap reverse c.new-3.ensures.items) c.new-4.ensures c.new-5.ensures.items
