use Rattle.std.proofs.Common.{◌≡◌, ◌||◌, length}
use Rattle.mlk_machine_locks.specs.NameTests.{are_first}
use Rattle.mlk_machine_locks.proofs.held.agree.Given as goal

abbrev pub invariant-loop-one : goal.invariant-loop-one
invariant-loop-one l =
    (are_first l.left l.right || are_first l.right l.left) ≡ (are_first l.first l.second || are_first l.second l.first)

abbrev pub decreases-loop-one : goal.decreases-loop-one
decreases-loop-one l = length l.left
