use Rattle.std.proofs.Common.{◌≡◌, take, map}
use Rattle.mlk_walk_state.specs.States.{at_rest}
use Rattle.mlk_walk_lines.proofs.control.begin.Given as goal

abbrev pub invariant-loop-case : goal.invariant-loop-case
invariant-loop-case l = l.going ≡ map at_rest (take l.case-index l.cases)
