use Rattle.std.proofs.Common.{take}
use Rattle.std.specs.Prelude.{flat_map, zip}
use Rattle.mlk_syntax.specs.ExprTrees.{actual_trees}
use Rattle.mlk_program.specs.Program.{received_by}
use Rattle.mlk_program.specs.Linking.{Gains}
use Rattle.mlk_program.proofs.shared.SharedNames.add_received.Given as goal

abbrev pub invariant-loop-i : goal.invariant-loop-i
invariant-loop-i l = Gains (flat_map received_by (zip l.formals (actual_trees (take l.i l.given)))) l.fn.self l.self
