use Rattle.std.proofs.Common.{take}
use Rattle.std.specs.Prelude.{flat_map}
use Rattle.mlk_program.specs.Tables.{trees}
use Rattle.mlk_program.specs.Linking.{Links, placed_in}
use Rattle.mlk_program.proofs.linking.+lines.Given as goal

abbrev pub invariant-link_lines-loop-line : goal.invariant-link_lines-loop-line
invariant-link_lines-loop-line l = Links (trees l.directory) (flat_map (placed_in l.routine) (take l.line-index l.lines)) l.fn.shared l.shared
