use Rattle.std.proofs.Common.{arith}
use Rattle.mlk_machine_jobs.specs.Lines.{is_end}
use Rattle.mlk_machine_jobs.proofs.PendingLemmas.{left_goes, left_stops, left_none}
use Rattle.mlk_machine_jobs.proofs.pending.kept_to_end.Goals as goal

pub returns-then-is_end-clause-kept : goal.returns-then-is_end-clause-kept
returns-then-is_end-clause-kept c = left_stops is_end c.args.pending.now c.loop-count.count c.index-pending-count.result
    c.is_end.result c.loop-count-test.true c.loop-count.invariant.0 c.index-pending-count.is c.is_end.ensures
    c.if-is_end.true c.loop-count.invariant.1

pub loop-count-preserved : goal.loop-count-preserved
loop-count-preserved c = (
  omega (arith, c.loop-count.invariant.0),
  left_goes is_end c.args.pending.now c.loop-count.count
      c.index-pending-count.result c.is_end.result c.loop-count-test.true c.loop-count.invariant.0 c.index-pending-count.is
      c.is_end.ensures c.if-is_end.false c.loop-count.invariant.1,
)

pub returns-clause-kept : goal.returns-clause-kept
returns-clause-kept c = left_none is_end c.args.pending.now c.loop-count.count (omega (arith, c.loop-count-test.false))
    c.loop-count.invariant.1
