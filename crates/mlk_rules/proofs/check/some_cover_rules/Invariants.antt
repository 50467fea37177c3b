use Rattle.std.proofs.Common.{ℕ, ◌<◌, ◌⊎◌}
use Rattle.std.specs.Prelude.{slice_index_or}
use Rattle.mlk_rules.specs.declared.cover.Cover.{Cover}
use Rattle.mlk_rules.specs.Patterns.{SurelyLies, SurelyAbove}
use Rattle.mlk_rules.proofs.check.some_cover_rules.Given as goal

abbrev pub invariant-loop-cover : goal.invariant-loop-cover
invariant-loop-cover l = (k : ℕ) (d : Cover) → k < l.cover-index → SurelyLies (slice_index_or l.covers k d).pattern l.reference ⊎ SurelyAbove (slice_index_or l.covers k d).pattern l.reference → ⊥
