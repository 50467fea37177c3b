use Rattle.std.proofs.Common.{◌≡◌, ◌+◌, ◌-◌, ◌≤◌, length, map, min}
use Rattle.std.specs.Prelude.{◌^◌}
use Rattle.mlk_syntax.specs.Views.{variable_of}
use Rattle.mlk_machine_jobs.specs.Locking.{count_all}
use Rattle.mlk_machine_jobs.proofs.locking.count_all.Given as goal

abbrev pub invariant-loop-variable : goal.invariant-loop-variable
invariant-loop-variable l = (l.count ≤ 2 ^ 64 - 1) × (min (count_all (map variable_of l.left) + l.count) (2 ^ 64 - 1) ≡ min (count_all (map variable_of l.fn.names)) (2 ^ 64 - 1))

abbrev pub decreases-loop-variable : goal.decreases-loop-variable
decreases-loop-variable l = length l.left
