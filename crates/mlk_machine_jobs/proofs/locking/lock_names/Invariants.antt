use Rattle.std.proofs.Common.{◌≡◌, ◌++◌, length, map}
use Rattle.mlk_syntax.specs.Views.{variable_of}
use Rattle.mlk_machine_jobs.specs.Locking.{names_of}
use Rattle.mlk_machine_jobs.proofs.locking.lock_names.Given as goal

abbrev pub invariant-loop-variable : goal.invariant-loop-variable
invariant-loop-variable l =
    l.found.items ++ names_of l.rest (map variable_of l.left) ≡ names_of l.fn.values (map variable_of l.fn.names)

abbrev pub decreases-loop-variable : goal.decreases-loop-variable
decreases-loop-variable l = length l.left
