use Rattle.std.proofs.Common.{ℕ, length}
use Rattle.std.specs.Prelude.{◌⊎◌}
use Rattle.mlk_names.specs.Lists.{Among}
use Rattle.mlk_machine_locks.specs.Keys.{asked_from, asked_of}
use Rattle.mlk_machine_locks.specs.Tables.{IsListed}
use Rattle.mlk_machine_locks.proofs.table.LockTable.add_against.Given as goal

abbrev pub invariant-loop-subscript : goal.invariant-loop-subscript
invariant-loop-subscript l =
    ((i : ℕ) → Among i l.fn.found.items → Among i l.found.items)
    × ((k : ℕ) → Among k (asked_of l.name)
    → Among k (asked_from l.key l.left) ⊎ ((i : ℕ) → IsListed l.self k i → Among i l.found.items))

abbrev pub decreases-loop-subscript : goal.decreases-loop-subscript
decreases-loop-subscript l = length l.left
