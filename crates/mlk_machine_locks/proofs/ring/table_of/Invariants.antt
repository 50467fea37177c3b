use Rattle.std.proofs.Common.{◌-◌, length}
use Rattle.mlk_machine_locks.specs.Tables.{CoversSome}
use Rattle.mlk_machine_locks.proofs.ring.table_of.Given as goal

abbrev pub invariant-loop-place : goal.invariant-loop-place
invariant-loop-place g l = CoversSome g.J.Seen.seen l.table l.jobs l.place

abbrev pub decreases-loop-place : goal.decreases-loop-place
decreases-loop-place g l = length l.jobs - l.place
