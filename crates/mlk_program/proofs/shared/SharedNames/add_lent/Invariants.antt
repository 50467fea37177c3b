use Rattle.std.proofs.Common.{take}
use Rattle.std.specs.Prelude.{flat_map}
use Rattle.mlk_syntax.specs.ExprTrees.{actual_trees}
use Rattle.mlk_program.specs.Program.{lent_by}
use Rattle.mlk_program.specs.Linking.{Gains}
use Rattle.mlk_program.proofs.shared.SharedNames.add_lent.Given as goal

abbrev pub invariant-loop-actual : goal.invariant-loop-actual
invariant-loop-actual l = Gains (flat_map lent_by (actual_trees (take l.actual-index l.given))) l.fn.self l.self
