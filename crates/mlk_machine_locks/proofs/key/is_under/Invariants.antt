use Rattle.std.proofs.Common.{◌≡◌, length}
use Rattle.mlk_machine_locks.specs.Keys.{is_under}
use Rattle.mlk_machine_locks.proofs.key.is_under.Given as goal

abbrev pub invariant-loop-entry : goal.invariant-loop-entry
invariant-loop-entry l = is_under l.key l.left ≡ is_under l.key l.entries

abbrev pub decreases-loop-entry : goal.decreases-loop-entry
decreases-loop-entry l = length l.left
