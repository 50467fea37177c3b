use Rattle.std.proofs.Common.{List, ◌++◌, drop}
use Rattle.mlk_names.specs.declared.term.LockTerm.{LockTerm}
use Rattle.mlk_rules.specs.Coverage.{AreLacking}
use Rattle.mlk_rules.proofs.lacking.missing_locks.Given as goal

abbrev pub invariant-loop-cover : goal.invariant-loop-cover
invariant-loop-cover l = (ts : List LockTerm) → AreLacking l.held l.reference (drop l.cover-index l.covers) ts → AreLacking l.held l.reference l.covers (l.found.items ++ ts)
