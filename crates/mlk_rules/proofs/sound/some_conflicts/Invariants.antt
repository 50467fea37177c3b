use Rattle.std.proofs.Common.{ℕ, ◌<◌}
use Rattle.std.specs.Prelude.{slice_index_or}
use Rattle.mlk_names.specs.LockNames.{Conflict}
use Rattle.mlk_rules.specs.declared.family.Family.{Family}
use Rattle.mlk_rules.proofs.sound.some_conflicts.Given as goal

abbrev pub invariant-loop-family : goal.invariant-loop-family
invariant-loop-family l = (k : ℕ) (d : Family) → k < l.family-index → Conflict l.name (slice_index_or l.families k d).name → ⊥
