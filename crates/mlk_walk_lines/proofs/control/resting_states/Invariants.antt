use Rattle.std.proofs.Common.{◌≡◌, map}
use Rattle.mlk_walk_state.specs.States.{at_rest}
use Rattle.mlk_walk_lines.proofs.control.resting_states.Given as goal

abbrev pub invariant-loop-case : goal.invariant-loop-case
invariant-loop-case l = l.states.items ≡ map at_rest l.yielded
