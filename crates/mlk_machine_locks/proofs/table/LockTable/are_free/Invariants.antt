use Rattle.std.proofs.Common.{◌≡◌, length}
use Rattle.std.specs.List.{list_all}
use Rattle.mlk_machine_locks.specs.Waiting.{is_free_among}
use Rattle.mlk_machine_locks.specs.Tables.{Covers}
use Rattle.mlk_machine_locks.proofs.table.LockTable.are_free.Given as goal

abbrev pub invariant-loop-name : goal.invariant-loop-name
invariant-loop-name g l =
    Covers g.J.Seen.seen l.self l.jobs
    × (list_all (is_free_among g.J.Seen.seen l.jobs l.number) l.left
    ≡ list_all (is_free_among g.J.Seen.seen l.jobs l.number) l.names)

abbrev pub decreases-loop-name : goal.decreases-loop-name
decreases-loop-name g l = length l.left
