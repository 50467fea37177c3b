use Rattle.std.proofs.Common.{◌≡◌, take}
use Rattle.mlk_walk_lines.proofs.rounds.copy_states.Given as goal

abbrev pub invariant-loop-state : goal.invariant-loop-state
invariant-loop-state l = l.all ≡ take l.state-index l.states
