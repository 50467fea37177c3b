use Rattle.std.proofs.Common.{◌-◌, length}
use Rattle.mlk_machine_locks.proofs.HolderLemmas.{Asked}
use Rattle.mlk_machine_locks.proofs.holders.Holders.some_keeps.Given as goal

abbrev pub invariant-loop-place : goal.invariant-loop-place
invariant-loop-place g l =
    Asked g.J.Seen.seen l.jobs l.key l.number l.name l.fn.self.places.keys l.self.places.keys l.index

abbrev pub decreases-loop-place : goal.decreases-loop-place
decreases-loop-place g l = length l.self.places.keys - l.index
