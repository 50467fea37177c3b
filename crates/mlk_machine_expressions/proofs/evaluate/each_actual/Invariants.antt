use Rattle.std.proofs.Common.{◌≡◌, ◌++◌, length, map}
use Rattle.mlk_syntax.specs.ExprTrees.{actual_trees}
use Rattle.mlk_machine_jobs.specs.Expressions.{each_actual}
use Rattle.mlk_machine_jobs.specs.TaskViews.{task_of}
use Rattle.mlk_machine_expressions.proofs.evaluate.each_actual.Given as goal

abbrev pub invariant-loop-actual : goal.invariant-loop-actual
invariant-loop-actual l = map task_of l.parts.items ++ each_actual (actual_trees l.left) ≡ map task_of l.fn.parts.items ++ each_actual (actual_trees l.fn.actuals)

abbrev pub decreases-loop-actual : goal.decreases-loop-actual
decreases-loop-actual l = length l.left
