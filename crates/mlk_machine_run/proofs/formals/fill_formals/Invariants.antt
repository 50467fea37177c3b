use Rattle.std.proofs.Common.{◌≡◌, length}
use Rattle.mlk_syntax.specs.ExprTrees.{actual_trees}
use Rattle.mlk_machine_jobs.specs.Views.{in_table}
use Rattle.mlk_machine_run.specs.Frames.{filled}
use Rattle.mlk_machine_run.proofs.formals.fill_formals.Given as goal

abbrev pub invariant-loop-formal : goal.invariant-loop-formal
invariant-loop-formal l = filled l.left (actual_trees l.actuals) l.rest (in_table l.table)
    ≡ filled l.fn.formals (actual_trees l.fn.given) l.fn.values (in_table l.fn.table)

abbrev pub decreases-loop-formal : goal.decreases-loop-formal
decreases-loop-formal l = length l.left
