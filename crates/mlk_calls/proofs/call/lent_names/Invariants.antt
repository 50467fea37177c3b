use Rattle.std.proofs.Common.{◌≡◌, take}
use Rattle.std.specs.Prelude.{flat_map}
use Rattle.mlk_syntax.specs.ExprTrees.{actual_trees}
use Rattle.mlk_calls.specs.Calls.{lent_set}
use Rattle.mlk_calls.proofs.call.lent_names.Given as goal

abbrev pub invariant-loop-actual : goal.invariant-loop-actual
invariant-loop-actual l = l.names.items ≡ flat_map lent_set (actual_trees (take l.actual-index l.given))
