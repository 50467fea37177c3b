use Rattle.std.proofs.Common.{◌≡◌, ◌++◌, length, map}
use Rattle.mlk_machine_jobs.specs.Expressions.{each_sub}
use Rattle.mlk_machine_jobs.specs.TaskViews.{task_of}
use Rattle.mlk_machine_expressions.specs.PartViews.{subs_of}
use Rattle.mlk_machine_expressions.proofs.expr.each_subscript.Given as goal

abbrev pub invariant-loop-subscript : goal.invariant-loop-subscript
invariant-loop-subscript l = map task_of l.parts.items ++ each_sub (subs_of l.left) ≡ map task_of l.fn.parts.items ++ each_sub (subs_of l.fn.subscripts)

abbrev pub decreases-loop-subscript : goal.decreases-loop-subscript
decreases-loop-subscript l = length l.left
