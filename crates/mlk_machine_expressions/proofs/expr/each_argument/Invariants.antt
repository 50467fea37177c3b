use Rattle.std.proofs.Common.{◌≡◌, ◌++◌, length, map}
use Rattle.mlk_machine_jobs.specs.Expressions.{each_tree}
use Rattle.mlk_machine_jobs.specs.TaskViews.{task_of}
use Rattle.mlk_machine_expressions.specs.PartViews.{args_of}
use Rattle.mlk_machine_expressions.proofs.expr.each_argument.Given as goal

abbrev pub invariant-loop-argument : goal.invariant-loop-argument
invariant-loop-argument l = map task_of l.parts.items ++ each_tree (args_of l.left) ≡ map task_of l.fn.parts.items ++ each_tree (args_of l.fn.arguments)

abbrev pub decreases-loop-argument : goal.decreases-loop-argument
decreases-loop-argument l = length l.left
