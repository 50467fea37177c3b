use Rattle.std.proofs.Common.{◌≡◌, ◌+◌, ◌-◌, ◌≤◌, length, map, min}
use Rattle.std.specs.Prelude.{◌^◌}
use Rattle.mlk_syntax.specs.Views.{target_of}
use Rattle.mlk_machine_jobs.specs.Assigning.{count_parts}
use Rattle.mlk_machine_assignments.proofs.assign.count_parts.Given as goal

abbrev pub invariant-loop-target : goal.invariant-loop-target
invariant-loop-target l = (l.count ≤ 2 ^ 64 - 1) × (min (count_parts (map target_of l.left) + l.count) (2 ^ 64 - 1) ≡ min (count_parts (map target_of l.fn.targets)) (2 ^ 64 - 1))

abbrev pub decreases-loop-target : goal.decreases-loop-target
decreases-loop-target l = length l.left
