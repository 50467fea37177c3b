use Rattle.std.proofs.Common.{◌≡◌, length}
use Rattle.mlk_machine_locks.specs.Counts.{all_lowered}
use Rattle.mlk_machine_locks.proofs.HeldLemmas.{Within}
use Rattle.mlk_machine_locks.proofs.held.Held.release.Given as goal

abbrev pub invariant-loop-name : goal.invariant-loop-name
invariant-loop-name l =
    (all_lowered l.left l.self-inside.entries.items ≡ all_lowered l.fn.names l.fn.self)
    × Within l.self-inside.entries.items

abbrev pub decreases-loop-name : goal.decreases-loop-name
decreases-loop-name l = length l.left
