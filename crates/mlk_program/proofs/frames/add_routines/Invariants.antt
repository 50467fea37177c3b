use Rattle.std.proofs.Common.{◌≡◌, ◌++◌, List, length}
use Rattle.mlk_syntax.specs.declared.routine.Routine.{Routine}
use Rattle.mlk_program.specs.Program.{calls_from}
use Rattle.mlk_program.specs.Tables.{trees}
use Rattle.mlk_program.specs.Frames.{Learns, fillings, passed_from}
use Rattle.mlk_program.proofs.frames.add_routines.Given as goal

abbrev pub invariant-loop-routine : goal.invariant-loop-routine
invariant-loop-routine l = (done : List Routine) × (l.routines ≡ l.left ++ done)
    × Learns (fillings (trees l.directory) (calls_from (length l.left) (trees done))) (passed_from (length l.left) done) l.fn.frames l.frames

abbrev pub decreases-loop-routine : goal.decreases-loop-routine
decreases-loop-routine l = length l.left
