use Rattle.std.proofs.Common.{◌≡◌, length}
use Rattle.mlk_machine_jobs.specs.Views.{in_table}
use Rattle.mlk_machine_run.specs.Frames.{filled_first}
use Rattle.mlk_machine_run.proofs.formals.fill_first.Given as goal

abbrev pub invariant-loop-formal : goal.invariant-loop-formal
invariant-loop-formal l = filled_first l.left l.rest (in_table l.table)
    ≡ filled_first l.fn.formals l.fn.values (in_table l.fn.table)

abbrev pub decreases-loop-formal : goal.decreases-loop-formal
decreases-loop-formal l = length l.left
