use Rattle.std.proofs.Common.{◌≡◌, length}
use Rattle.mlk_machine_locks.specs.Counts.{claimed}
use Rattle.mlk_machine_locks.proofs.HeldLemmas.{Within}
use Rattle.mlk_machine_locks.proofs.held.Held.with_claims.Given as goal

abbrev pub invariant-loop-name : goal.invariant-loop-name
invariant-loop-name l =
    (claimed l.left l.entries.items ≡ claimed l.fn.names l.fn.self) × Within l.entries.items

abbrev pub decreases-loop-name : goal.decreases-loop-name
decreases-loop-name l = length l.left
