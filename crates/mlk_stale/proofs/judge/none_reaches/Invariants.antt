use Rattle.std.proofs.Common.{ℕ, ◌<◌}
use Rattle.std.specs.Prelude.{slice_index_or}
use Rattle.mlk_names.specs.declared.reference.Reference.{Reference}
use Rattle.mlk_names.specs.References.{MayOverlap}
use Rattle.mlk_stale.proofs.judge.none_reaches.Given as goal

abbrev pub invariant-loop-read : goal.invariant-loop-read
invariant-loop-read l = (k : ℕ) (d : Reference) → k < l.read-index → MayOverlap (slice_index_or l.reads k d) l.written → ⊥
