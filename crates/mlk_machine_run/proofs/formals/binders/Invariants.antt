use Rattle.std.proofs.Common.{◌≡◌, ◌++◌, length, map}
use Rattle.mlk_syntax.specs.ExprTrees.{actual_trees}
use Rattle.mlk_machine_jobs.specs.Calling.{binders}
use Rattle.mlk_machine_jobs.specs.Views.{binder_of, bindings_of}
use Rattle.mlk_machine_run.proofs.formals.binders.Given as goal

abbrev pub invariant-loop-formal : goal.invariant-loop-formal
invariant-loop-formal l =
    map binder_of l.found.items ++ binders (bindings_of l.fn.caller) l.fn.generation l.left (actual_trees l.actuals)
    ≡ binders (bindings_of l.fn.caller) l.fn.generation l.fn.formals (actual_trees l.fn.given)

abbrev pub decreases-loop-formal : goal.decreases-loop-formal
decreases-loop-formal l = length l.left
