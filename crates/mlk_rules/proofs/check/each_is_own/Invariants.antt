use Rattle.std.proofs.Common.{ℕ, ◌<◌}
use Rattle.std.specs.Prelude.{slice_index_or}
use Rattle.mlk_rules.specs.declared.pattern.Pattern.{Pattern}
use Rattle.mlk_rules.specs.Patterns.{MayMeet}
use Rattle.mlk_rules.specs.Coverage.{IsOwn}
use Rattle.mlk_rules.proofs.check.each_is_own.Given as goal

abbrev pub invariant-loop-pattern : goal.invariant-loop-pattern
invariant-loop-pattern l = (k : ℕ) (d : Pattern) → k < l.pattern-index → MayMeet (slice_index_or l.patterns k d) l.reference → IsOwn (slice_index_or l.patterns k d) l.reference
