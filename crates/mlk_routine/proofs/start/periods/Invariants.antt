use Rattle.std.proofs.Common.{length, ◌-◌}
use Rattle.mlk_routine.proofs.Starts.{PeriodsSoFar}
use Rattle.mlk_routine.proofs.start.periods.Given as goal

abbrev pub invariant-loop-count : goal.invariant-loop-count
invariant-loop-count l = PeriodsSoFar l.line l.at l.count l.next

abbrev pub decreases-loop-count : goal.decreases-loop-count
decreases-loop-count l = length l.line - l.next
