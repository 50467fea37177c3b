use Rattle.std.proofs.Common.{◌≡◌, map}
use Rattle.mlk_walk_lines.specs.Endings.{end_of, case_end, add_endings}
use Rattle.mlk_walk_lines.proofs.line_end.LineEnd.end_cases.Given as goal

abbrev pub invariant-loop-case : goal.invariant-loop-case
invariant-loop-case l = l.ends ≡ add_endings (map (case_end (end_of l.self)) l.yielded) l.fn.ends
