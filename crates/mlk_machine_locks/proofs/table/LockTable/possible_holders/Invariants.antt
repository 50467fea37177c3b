use Rattle.std.proofs.Common.{ℕ, length}
use Rattle.std.specs.Prelude.{◌⊎◌}
use Rattle.mlk_names.specs.Lists.{Among}
use Rattle.mlk_names.specs.declared.lock_name.LockName.{LockName}
use Rattle.mlk_machine_locks.specs.Keys.{asked_of}
use Rattle.mlk_machine_locks.specs.Tables.{IsListed}
use Rattle.mlk_machine_locks.proofs.table.LockTable.possible_holders.Given as goal

abbrev pub invariant-loop-name : goal.invariant-loop-name
invariant-loop-name l =
    (n : LockName) → Among n l.names → Among n l.left
    ⊎ ((k : ℕ) → Among k (asked_of n) → (i : ℕ) → IsListed l.self k i → Among i l.found.items)

abbrev pub decreases-loop-name : goal.decreases-loop-name
decreases-loop-name l = length l.left
