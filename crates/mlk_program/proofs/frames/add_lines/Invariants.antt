use Rattle.std.proofs.Common.{◌≡◌, ◌++◌, List, length}
use Rattle.std.specs.Prelude.{flat_map}
use Rattle.mlk_syntax.specs.declared.routine.Line.{Line}
use Rattle.mlk_program.specs.Tables.{trees}
use Rattle.mlk_program.specs.Linking.{placed_in}
use Rattle.mlk_program.specs.Frames.{Learns, fillings, past_of, passed_in_lines}
use Rattle.mlk_program.proofs.frames.add_lines.Given as goal

abbrev pub invariant-loop-line : goal.invariant-loop-line
invariant-loop-line l = (done : List Line) × (l.lines ≡ l.left ++ done) × (l.past ≡ past_of done)
    × Learns (fillings (trees l.directory) (flat_map (placed_in l.routine) done)) (passed_in_lines l.routine done) l.fn.frames l.frames

abbrev pub decreases-loop-line : goal.decreases-loop-line
decreases-loop-line l = length l.left
