use Rattle.std.proofs.Common.{◌≡◌, map}
use Rattle.mlk_walk_lines.specs.Endings.{end_of, state_end, add_endings}
use Rattle.mlk_walk_lines.proofs.line_end.LineEnd.end_states.Given as goal

abbrev pub invariant-loop-state : goal.invariant-loop-state
invariant-loop-state l = l.ends ≡ add_endings (map (state_end (end_of l.self)) l.yielded) l.fn.ends
