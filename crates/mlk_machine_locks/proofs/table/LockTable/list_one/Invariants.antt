use Rattle.std.proofs.Common.{ℕ, length}
use Rattle.std.specs.Prelude.{◌⊎◌}
use Rattle.mlk_names.specs.Lists.{Among}
use Rattle.mlk_machine_locks.specs.Keys.{keys_from, keys_of}
use Rattle.mlk_machine_locks.specs.Tables.{IsListed, ListsAll}
use Rattle.mlk_machine_locks.proofs.table.LockTable.list_one.Given as goal

abbrev pub invariant-loop-subscript : goal.invariant-loop-subscript
invariant-loop-subscript l =
    ListsAll l.fn.self l.self
    × ((k : ℕ) → Among k (keys_of l.name) → Among k (keys_from l.key l.left) ⊎ IsListed l.self k l.place)

abbrev pub decreases-loop-subscript : goal.decreases-loop-subscript
decreases-loop-subscript l = length l.left
