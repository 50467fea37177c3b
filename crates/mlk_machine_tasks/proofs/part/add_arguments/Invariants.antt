use Rattle.std.proofs.Common.{◌≡◌, ◌≤◌, ◌-◌, ◌++◌, length, map}
use Rattle.mlk_syntax.specs.Views.{action_of}
use Rattle.mlk_machine_jobs.specs.Commands.{in_turn}
use Rattle.mlk_machine_jobs.specs.TaskViews.{task_of}
use Rattle.mlk_machine_tasks.proofs.part.add_arguments.Given as goal

abbrev pub invariant-loop-argument : goal.invariant-loop-argument
invariant-loop-argument g l =
    (length l.left ≤ length l.fn.arguments)
    × (map task_of l.parts.items ++ in_turn g.P.Expanded.tasks (action_of l.fn.action) (length l.fn.arguments - length l.left) l.left
    ≡ map task_of l.fn.parts.items ++ in_turn g.P.Expanded.tasks (action_of l.fn.action) 0 l.fn.arguments)

abbrev pub decreases-loop-argument : goal.decreases-loop-argument
decreases-loop-argument g l = length l.left
