use Rattle.std.proofs.Common.{◌≡◌, ◌++◌, length, map}
use Rattle.mlk_syntax.specs.Views.{target_of}
use Rattle.mlk_machine_jobs.specs.Assigning.{assignments}
use Rattle.mlk_machine_jobs.specs.TaskViews.{task_of}
use Rattle.mlk_machine_assignments.proofs.assign.assignments.Given as goal

abbrev pub invariant-loop-target : goal.invariant-loop-target
invariant-loop-target l = map task_of l.parts.items ++ assignments l.value l.rest (map target_of l.left) ≡ map task_of l.fn.parts.items ++ assignments l.fn.value l.fn.needs (map target_of l.fn.targets)

abbrev pub decreases-loop-target : goal.decreases-loop-target
decreases-loop-target l = length l.left
