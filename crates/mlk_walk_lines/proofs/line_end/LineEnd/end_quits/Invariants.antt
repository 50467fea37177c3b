use Rattle.std.proofs.Common.{◌≡◌, map}
use Rattle.mlk_walk_lines.specs.Endings.{end_of, quit_end, add_endings}
use Rattle.mlk_walk_lines.proofs.line_end.LineEnd.end_quits.Given as goal

abbrev pub invariant-loop-quit : goal.invariant-loop-quit
invariant-loop-quit l = l.ends ≡ add_endings (map (quit_end (end_of l.self)) l.yielded) l.fn.ends
