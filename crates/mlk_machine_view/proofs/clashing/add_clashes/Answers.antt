use Rattle.std.proofs.Common.{arith}
use Rattle.mlk_machine_jobs.specs.JobViews.{job_of}
use Rattle.mlk_machine_view.proofs.PairLemmas.{with_on}
use Rattle.mlk_machine_view.proofs.clashing.add_clashes.Goals as goal

pub loop-other-preserved : goal.loop-other-preserved
loop-other-preserved c =
    with_on (job_of c.args.job.now) c.args.others.now c.loop-other.other-index c.other-item.result c.loop-other.pairs.items _ _
    (omega (arith, c.loop-other-test.true)) c.other-item.is c.in_ok-add_clash.ensures c.loop-other.invariant
