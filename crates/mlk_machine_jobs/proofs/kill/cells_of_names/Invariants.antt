use Rattle.std.proofs.Common.{◌≡◌, ◌++◌, length, map}
use Rattle.mlk_machine_jobs.specs.Bindings.{look}
use Rattle.mlk_machine_jobs.specs.Views.{cell_of, bindings_of}
use Rattle.mlk_machine_jobs.proofs.kill.cells_of_names.Given as goal

abbrev pub invariant-loop-name : goal.invariant-loop-name
invariant-loop-name l =
    map cell_of l.found.items ++ map (look (bindings_of l.fn.binders)) l.left ≡ map (look (bindings_of l.fn.binders)) l.fn.names

abbrev pub decreases-loop-name : goal.decreases-loop-name
decreases-loop-name l = length l.left
