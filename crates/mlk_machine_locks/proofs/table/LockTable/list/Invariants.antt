use Rattle.std.proofs.Common.{length}
use Rattle.std.specs.Prelude.{◌⊎◌}
use Rattle.mlk_names.specs.Lists.{Among}
use Rattle.mlk_names.specs.declared.lock_name.LockName.{LockName}
use Rattle.mlk_machine_locks.specs.Tables.{IsFound, ListsAll}
use Rattle.mlk_machine_locks.proofs.table.LockTable.list.Given as goal

abbrev pub invariant-loop-name : goal.invariant-loop-name
invariant-loop-name l =
    ListsAll l.fn.self l.self
    × ((n : LockName) → Among n l.names → Among n l.left ⊎ IsFound l.self l.place n)

abbrev pub decreases-loop-name : goal.decreases-loop-name
decreases-loop-name l = length l.left
