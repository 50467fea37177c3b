use Rattle.std.proofs.Common.{take}
use Rattle.mlk_syntax.specs.Distinct.{AreDistinct}
use Rattle.mlk_program.proofs.DistinctNames.{names}
use Rattle.mlk_program.proofs.linking.check_distinct.Given as goal

abbrev pub invariant-loop-i : goal.invariant-loop-i
invariant-loop-i l = AreDistinct (names (take l.i l.directory))
