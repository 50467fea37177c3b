use Rattle.std.proofs.Common.{arith}
use Rattle.mlk_machine_view.proofs.PrintedLemmas.{line_on}
use Rattle.mlk_machine_view.proofs.printed.push_jobs.Goals as goal

pub loop-job-preserved : goal.loop-job-preserved
loop-job-preserved c =
    line_on c.args.program.now c.args.jobs.now c.loop-job.job-index c.job-item.result c.loop-job.text c.push_job.new.text _
    (omega (arith, c.loop-job-test.true)) c.job-item.is c.in_ok-push_job.ensures c.loop-job.invariant
