use Rattle.std.proofs.Common.{refl}
use Rattle.mlk_routine.proofs.Starts.{one_period, periods_nearer, all_periods}
use Rattle.mlk_routine.proofs.start.periods.Goals as goal

pub loop-count-smaller : goal.loop-count-smaller
loop-count-smaller c = periods_nearer c.args.line.now c.args.at c.loop-count.count c.loop-count.next c.loop-count.invariant (c.loop-count-test.ensures.yes refl) c.past_blanks-next.result c.past_blanks-next.ensures

pub loop-count-preserved : goal.loop-count-preserved
loop-count-preserved c = one_period c.args.line.now c.args.at c.loop-count.count c.loop-count.next c.loop-count.invariant (c.loop-count-test.ensures.yes refl) c.past_blanks-next.result c.past_blanks-next.ensures

pub returns-clause-found : goal.returns-clause-found
returns-clause-found c = all_periods c.args.line.now c.args.at c.loop-count.count c.loop-count.next c.loop-count.invariant (c.loop-count-test.ensures.no refl)
