use Rattle.std.proofs.Common.{take}
use Rattle.std.specs.Prelude.{flat_map}
use Rattle.mlk_program.specs.Tables.{trees}
use Rattle.mlk_program.specs.Linking.{placed_at}
use Rattle.mlk_program.specs.Frames.{LearnsCalls}
use Rattle.mlk_program.proofs.frames.add_calls.Given as goal

abbrev pub invariant-loop-site : goal.invariant-loop-site
invariant-loop-site l = LearnsCalls (trees l.directory) l.part (flat_map (placed_at l.part.routine l.line) (take l.site-index l.found))
    l.fn.frames l.frames
