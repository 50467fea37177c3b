use Rattle.std.proofs.Common.{◌≡◌, ◌++◌, length, map}
use Rattle.mlk_machine_jobs.specs.Expressions.{operation}
use Rattle.mlk_machine_jobs.specs.TaskViews.{task_of}
use Rattle.mlk_machine_expressions.specs.PartViews.{links_of}
use Rattle.mlk_machine_expressions.proofs.evaluate.chain.Given as goal

abbrev pub invariant-loop-link : goal.invariant-loop-link
invariant-loop-link l = map task_of l.parts.items ++ operation (links_of l.left) ≡ map task_of l.fn.parts.items ++ operation (links_of l.fn.rest)

abbrev pub decreases-loop-link : goal.decreases-loop-link
decreases-loop-link l = length l.left
