use Rattle.std.proofs.Common.{◌≡◌, map}
use Rattle.mlk_walk_state.specs.States.{at_rest}
use Rattle.mlk_walk_lines.proofs.control.resting_quits.Given as goal

abbrev pub invariant-loop-quit : goal.invariant-loop-quit
invariant-loop-quit l = l.states.items ≡ map (λ q. at_rest q.case) l.yielded
