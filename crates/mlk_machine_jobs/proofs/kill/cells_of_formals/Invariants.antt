use Rattle.std.proofs.Common.{◌≡◌, ◌≤◌, ◌++◌, length, map, take}
use Rattle.mlk_machine_jobs.specs.Killing.{cells_of_formals}
use Rattle.mlk_machine_jobs.specs.Views.{names_of, cell_of, bindings_of}
use Rattle.mlk_machine_jobs.proofs.kill.cells_of_formals.Given as goal

abbrev pub invariant-loop-count : goal.invariant-loop-count
invariant-loop-count l = (l.count ≤ length l.binders)
    × (map cell_of l.found.items ++ cells_of_formals (bindings_of l.binders) (bindings_of (take l.count l.binders)) (names_of l.names)
    ≡ cells_of_formals (bindings_of l.binders) (bindings_of l.binders) (names_of l.names))

abbrev pub decreases-loop-count : goal.decreases-loop-count
decreases-loop-count l = l.count
