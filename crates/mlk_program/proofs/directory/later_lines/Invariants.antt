use Rattle.std.proofs.Common.{◌≡◌, ◌+◌, ◌++◌, List, length, reverse}
use Rattle.std.specs.List.{prefix_len}
use Rattle.mlk_syntax.specs.declared.routine.Line.{Line}
use Rattle.mlk_program.specs.Tables.{line_has_no_formals, later_lines}
use Rattle.mlk_program.proofs.directory.later_lines.Given as goal

abbrev pub invariant-loop-line : goal.invariant-loop-line
invariant-loop-line l = (done : List Line) × (l.lines ≡ l.left ++ done) × (l.counts.items ≡ reverse (later_lines done))
    × (l.end ≡ length l.left + prefix_len line_has_no_formals done)

abbrev pub decreases-loop-line : goal.decreases-loop-line
decreases-loop-line l = length l.left
