use Rattle.std.proofs.Common.{◌≡◌, ◌+◌, length}
use Rattle.mlk_machine_locks.specs.Counts.{count_of}
use Rattle.mlk_machine_locks.proofs.held.count_in.Given as goal

abbrev pub invariant-loop-entry : goal.invariant-loop-entry
invariant-loop-entry l = l.count + count_of l.left l.name ≡ count_of l.fn.entries l.name

abbrev pub decreases-loop-entry : goal.decreases-loop-entry
decreases-loop-entry l = length l.left
