use Rattle.std.proofs.Common.{ℕ, ◌<◌, ◌⊎◌}
use Rattle.std.specs.Prelude.{slice_index_or}
use Rattle.mlk_rules.specs.declared.pattern.Pattern.{Pattern}
use Rattle.mlk_rules.specs.Patterns.{SurelyLies, SurelyAbove}
use Rattle.mlk_rules.proofs.check.some_pattern_rules.Given as goal

abbrev pub invariant-loop-pattern : goal.invariant-loop-pattern
invariant-loop-pattern l = (k : ℕ) (d : Pattern) → k < l.pattern-index → SurelyLies (slice_index_or l.patterns k d) l.reference ⊎ SurelyAbove (slice_index_or l.patterns k d) l.reference → ⊥
