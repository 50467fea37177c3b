use Rattle.std.proofs.Common.{◌≡◌, ◌≤◌, ◌-◌, ◌++◌, length, map}
use Rattle.mlk_syntax.specs.ExprTrees.{trees}
use Rattle.mlk_syntax.specs.Views.{action_of}
use Rattle.mlk_machine_jobs.specs.Commands.{in_turn, evaluated}
use Rattle.mlk_machine_jobs.specs.TaskViews.{task_of}
use Rattle.mlk_machine_tasks.proofs.action.evaluate_each.Given as goal

abbrev pub invariant-loop-time : goal.invariant-loop-time
invariant-loop-time l =
    (length l.left ≤ length l.fn.times)
    × (map task_of l.parts.items ++ in_turn evaluated (action_of l.fn.action) (length l.fn.times - length l.left) (trees l.left)
    ≡ map task_of l.fn.parts.items ++ in_turn evaluated (action_of l.fn.action) 0 (trees l.fn.times))

abbrev pub decreases-loop-time : goal.decreases-loop-time
decreases-loop-time l = length l.left
