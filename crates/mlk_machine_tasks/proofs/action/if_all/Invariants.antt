use Rattle.std.proofs.Common.{◌≡◌, ◌≤◌, ◌-◌, ◌++◌, length, map}
use Rattle.mlk_syntax.specs.ExprTrees.{trees}
use Rattle.mlk_syntax.specs.Views.{action_of}
use Rattle.mlk_machine_jobs.specs.Commands.{in_turn, if_parts}
use Rattle.mlk_machine_jobs.specs.TaskViews.{task_of}
use Rattle.mlk_machine_tasks.proofs.action.if_all.Given as goal

abbrev pub invariant-loop-condition : goal.invariant-loop-condition
invariant-loop-condition l =
    (length l.left ≤ length l.fn.conditions)
    × (map task_of l.parts.items ++ in_turn if_parts (action_of l.fn.action) (length l.fn.conditions - length l.left) (trees l.left)
    ≡ map task_of l.fn.parts.items ++ in_turn if_parts (action_of l.fn.action) 0 (trees l.fn.conditions))

abbrev pub decreases-loop-condition : goal.decreases-loop-condition
decreases-loop-condition l = length l.left
