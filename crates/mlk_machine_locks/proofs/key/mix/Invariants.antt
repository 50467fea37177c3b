use Rattle.std.proofs.Common.{◌≡◌, length}
use Rattle.mlk_machine_locks.specs.Keys.{mixed}
use Rattle.mlk_machine_locks.proofs.key.mix.Given as goal

abbrev pub invariant-loop-byte : goal.invariant-loop-byte
invariant-loop-byte l = mixed l.mixed l.left ≡ mixed l.key l.bytes

abbrev pub decreases-loop-byte : goal.decreases-loop-byte
decreases-loop-byte l = length l.left
