use Rattle.std.proofs.Common.{◌≤◌, length}
use Rattle.mlk_machine_jobs.specs.Lines.{is_end}
use Rattle.mlk_machine_jobs.proofs.PendingLemmas.{Left}
use Rattle.mlk_machine_jobs.proofs.pending.kept_to_end.Given as goal

abbrev pub invariant-loop-count : goal.invariant-loop-count
invariant-loop-count l = (l.count ≤ length l.fn.pending) × Left is_end l.fn.pending l.count

abbrev pub decreases-loop-count : goal.decreases-loop-count
decreases-loop-count l = l.count
