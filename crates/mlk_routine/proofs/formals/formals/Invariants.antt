use Rattle.std.proofs.Common.{length, ◌-◌}
use Rattle.mlk_routine.proofs.FormalLists.{NamesSoFar, AreSeen}
use Rattle.mlk_routine.proofs.formals.formals.Given as goal

abbrev pub invariant-loop-seen : goal.invariant-loop-seen
invariant-loop-seen l = record {
  read : NamesSoFar l.line l.at l.names l.next;
  seen : AreSeen l.seen.texts.keys l.names;
}

abbrev pub decreases-loop-seen : goal.decreases-loop-seen
decreases-loop-seen l = length l.line - l.next
