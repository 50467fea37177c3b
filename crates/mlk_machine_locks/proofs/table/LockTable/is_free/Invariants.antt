use Rattle.std.proofs.Common.{ℕ, length}
use Rattle.std.specs.Prelude.{◌⊎◌}
use Rattle.mlk_names.specs.Lists.{Among}
use Rattle.mlk_machine_locks.specs.Keys.{asked_from, asked_of}
use Rattle.mlk_machine_locks.specs.Tables.{Covers, IsFreeUnder}
use Rattle.mlk_machine_locks.proofs.table.LockTable.is_free.Given as goal

abbrev pub invariant-loop-subscript : goal.invariant-loop-subscript
invariant-loop-subscript g l =
    Covers g.J.Seen.seen l.self l.jobs
    × ((k : ℕ) → Among k (asked_of l.name)
    → Among k (asked_from l.key l.left) ⊎ IsFreeUnder g.J.Seen.seen l.jobs l.number l.name k)

abbrev pub decreases-loop-subscript : goal.decreases-loop-subscript
decreases-loop-subscript g l = length l.left
