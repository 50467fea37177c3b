use Rattle.std.proofs.Common.{take}
use Rattle.std.specs.Prelude.{flat_map}
use Rattle.mlk_program.specs.Tables.{trees}
use Rattle.mlk_program.specs.Linking.{Links, placed_at}
use Rattle.mlk_program.proofs.linking.link_calls.Given as goal

abbrev pub invariant-loop-site : goal.invariant-loop-site
invariant-loop-site l = Links (trees l.directory) (flat_map (placed_at l.at.routine l.at.line) (take l.site-index l.found))
    l.fn.shared l.shared
