use Rattle.std.proofs.Common.{◌≡◌, ◌++◌, length}
use Rattle.mlk_machine_assignments.proofs.assign.global_touch.Given as goal

abbrev pub invariant-loop-value : goal.invariant-loop-value
invariant-loop-value l = l.subs ++ l.left ≡ l.fn.values

abbrev pub decreases-loop-value : goal.decreases-loop-value
decreases-loop-value l = length l.left
