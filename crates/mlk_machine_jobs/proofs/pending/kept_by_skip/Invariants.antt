use Rattle.std.proofs.Common.{◌≤◌, length}
use Rattle.std.specs.Prelude.{◌||◌}
use Rattle.mlk_machine_jobs.specs.Lines.{is_round, is_lines, is_end}
use Rattle.mlk_machine_jobs.proofs.PendingLemmas.{Left}
use Rattle.mlk_machine_jobs.proofs.pending.kept_by_skip.Given as goal

abbrev pub invariant-loop-count : goal.invariant-loop-count
invariant-loop-count l = (l.count ≤ length l.fn.pending) × Left (λ t. is_round t || is_lines t || is_end t) l.fn.pending l.count

abbrev pub decreases-loop-count : goal.decreases-loop-count
decreases-loop-count l = l.count
