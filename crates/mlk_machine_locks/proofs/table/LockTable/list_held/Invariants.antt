use Rattle.std.proofs.Common.{◌<◌, length}
use Rattle.std.specs.Prelude.{◌⊎◌}
use Rattle.mlk_names.specs.declared.lock_name.LockName.{LockName}
use Rattle.mlk_machine_locks.specs.Counts.{count_of}
use Rattle.mlk_machine_locks.specs.Tables.{IsFound, ListsAll}
use Rattle.mlk_machine_locks.proofs.table.LockTable.list_held.Given as goal

abbrev pub invariant-loop-entry : goal.invariant-loop-entry
invariant-loop-entry l =
    ListsAll l.fn.self l.self
    × ((n : LockName) → 0 < count_of l.entries n → (0 < count_of l.left n) ⊎ IsFound l.self l.place n)

abbrev pub decreases-loop-entry : goal.decreases-loop-entry
decreases-loop-entry l = length l.left
