use Rattle.std.proofs.Common.{ℕ, ◌<◌}
use Rattle.std.specs.Prelude.{slice_index_or}
use Rattle.mlk_names.specs.declared.term.LockTerm.{LockTerm}
use Rattle.mlk_names.specs.Terms.{IsPrefix}
use Rattle.mlk_rules.specs.Coverage.{cut_template}
use Rattle.mlk_rules.proofs.held.holds_lock.Given as goal

abbrev pub invariant-loop-term : goal.invariant-loop-term
invariant-loop-term l = (k : ℕ) (d : LockTerm) → k < l.term-index → IsPrefix (slice_index_or l.held k d) (cut_template l.lock l.reference) → ⊥
