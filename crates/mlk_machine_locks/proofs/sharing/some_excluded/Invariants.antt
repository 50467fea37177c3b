use Rattle.std.proofs.Common.{◌≡◌, length}
use Rattle.std.specs.List.{list_any}
use Rattle.mlk_machine_locks.specs.Counts.{excludes}
use Rattle.mlk_machine_locks.proofs.sharing.some_excluded.Given as goal

abbrev pub invariant-loop-name : goal.invariant-loop-name
invariant-loop-name l = list_any (excludes l.held) l.left ≡ list_any (excludes l.held) l.names

abbrev pub decreases-loop-name : goal.decreases-loop-name
decreases-loop-name l = length l.left
