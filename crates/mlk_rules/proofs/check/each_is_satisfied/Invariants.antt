use Rattle.std.proofs.Common.{ℕ, ◌<◌}
use Rattle.std.specs.Prelude.{slice_index_or}
use Rattle.mlk_rules.specs.declared.cover.Cover.{Cover}
use Rattle.mlk_rules.specs.Patterns.{MayMeet}
use Rattle.mlk_rules.specs.Coverage.{Satisfies}
use Rattle.mlk_rules.proofs.check.each_is_satisfied.Given as goal

abbrev pub invariant-loop-cover : goal.invariant-loop-cover
invariant-loop-cover l = (k : ℕ) (d : Cover) → k < l.cover-index → MayMeet (slice_index_or l.covers k d).pattern l.reference → Satisfies l.held l.reference (slice_index_or l.covers k d)
