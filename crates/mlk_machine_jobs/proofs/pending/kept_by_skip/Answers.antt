use Rattle.std.proofs.Common.{arith}
use Rattle.std.specs.Prelude.{◌||◌, Bool}
use Rattle.mlk_machine_jobs.specs.Tasks.{Task}
use Rattle.mlk_machine_jobs.specs.Lines.{is_round, is_lines, is_end}
use Rattle.mlk_machine_jobs.proofs.PendingLemmas.{left_goes, left_stops, left_none}
use Rattle.mlk_machine_jobs.proofs.pending.kept_by_skip.Goals as goal

abbrev stops : Task → Bool
stops t = is_round t || is_lines t || is_end t

pub returns-then-stops_skipping-clause-kept : goal.returns-then-stops_skipping-clause-kept
returns-then-stops_skipping-clause-kept c = left_stops stops c.args.pending.now c.loop-count.count c.index-pending-count.result
    c.stops_skipping.result c.loop-count-test.true c.loop-count.invariant.0 c.index-pending-count.is c.stops_skipping.ensures
    c.if-stops_skipping.true c.loop-count.invariant.1

pub loop-count-preserved : goal.loop-count-preserved
loop-count-preserved c = (
  omega (arith, c.loop-count.invariant.0),
  left_goes stops c.args.pending.now c.loop-count.count
      c.index-pending-count.result c.stops_skipping.result c.loop-count-test.true c.loop-count.invariant.0 c.index-pending-count.is
      c.stops_skipping.ensures c.if-stops_skipping.false c.loop-count.invariant.1,
)

pub returns-clause-kept : goal.returns-clause-kept
returns-clause-kept c = left_none stops c.args.pending.now c.loop-count.count (omega (arith, c.loop-count-test.false))
    c.loop-count.invariant.1
