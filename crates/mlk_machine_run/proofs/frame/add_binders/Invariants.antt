use Rattle.std.proofs.Common.{◌≡◌, ◌++◌, ◌+◌, ◌≤◌, reverse}
use Rattle.std.specs.Vec.{vec_len, vec_capacity}
use Rattle.mlk_machine_run.proofs.frame.add_binders.Given as goal

abbrev pub invariant-loop-binder : goal.invariant-loop-binder
invariant-loop-binder l = (vec_len l.binders + vec_len l.left ≤ vec_capacity l.binders)
    × (l.binders.items ++ reverse l.left.items ≡ l.fn.binders.items ++ reverse l.fn.found.items)

abbrev pub decreases-loop-binder : goal.decreases-loop-binder
decreases-loop-binder l = vec_len l.left
