use Rattle.std.proofs.Common.{◌≡◌, ◌-◌, length, map}
use Rattle.mlk_machine_jobs.specs.Killing.{is_taken}
use Rattle.mlk_machine_jobs.specs.Views.{names_of, cell_of, bindings_of, value_at}
use Rattle.mlk_machine_jobs.proofs.CellLemmas.{left_out}
use Rattle.mlk_machine_jobs.proofs.cell.leave_out.Given as goal

abbrev pub invariant-loop-generation : goal.invariant-loop-generation
invariant-loop-generation l = (value_at l.tables.items
    ≡ left_out (is_taken (bindings_of l.binders) (names_of l.names) (map cell_of l.shared) (map cell_of l.spared)) l.generation
    (value_at l.fn.tables.items))
    × (length l.tables.items ≡ length l.fn.tables.items)

abbrev pub decreases-loop-generation : goal.decreases-loop-generation
decreases-loop-generation l = length l.tables.items - l.generation
