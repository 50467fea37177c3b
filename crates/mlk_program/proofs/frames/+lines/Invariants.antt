use Rattle.std.proofs.Common.{take}
use Rattle.std.specs.Prelude.{flat_map}
use Rattle.mlk_program.specs.Tables.{trees}
use Rattle.mlk_program.specs.Linking.{placed_in}
use Rattle.mlk_program.specs.Frames.{LearnsCalls}
use Rattle.mlk_program.proofs.frames.+lines.Given as goal

abbrev pub invariant-add_block-loop-line : goal.invariant-add_block-loop-line
invariant-add_block-loop-line l =
    LearnsCalls (trees l.directory) l.part (flat_map (placed_in l.part.routine) (take l.line-index l.lines)) l.fn.frames l.frames
