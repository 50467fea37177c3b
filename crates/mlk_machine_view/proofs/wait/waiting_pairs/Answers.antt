use Rattle.std.proofs.Common.{map, arith}
use Rattle.mlk_machine_jobs.specs.JobViews.{job_of}
use Rattle.mlk_machine_view.specs.Clashes.{waits_of}
use Rattle.mlk_machine_view.proofs.PairLemmas.{pairs_on}
use Rattle.mlk_machine_view.proofs.wait.waiting_pairs.Goals as goal

pub loop-job-preserved : goal.loop-job-preserved
loop-job-preserved c =
    pairs_on (λ j. waits_of j (map job_of c.args.jobs.now)) c.args.jobs.now c.loop-job.job-index c.job-item.result
    c.loop-job.pairs.items _ _ (omega (arith, c.loop-job-test.true)) c.job-item.is c.in_ok-add_waits.ensures
    c.loop-job.invariant
