use Rattle.std.proofs.Common.{◌∙◌}
use Rattle.mlk_machine_jobs.specs.Views.{cell_of}
use Rattle.mlk_machine_jobs.proofs.TakenLemmas.{any_of}
use Rattle.mlk_machine_jobs.proofs.kill.is_in.Goals as goal

pub returns : goal.returns
returns c = c.has_cell.ensures ∙ any_of c.args.cells.now (cell_of c.args.cell)
