use Rattle.std.proofs.Common.{map}
use Rattle.mlk_syntax.specs.Views.{routine_of}
use Rattle.mlk_machine_jobs.specs.JobViews.{job_of}
use Rattle.mlk_machine_asks.proofs.AskingLemmas.{asked_so}
use Rattle.mlk_machine_asks.proofs.asking.question_of.Goals as goal

pub returns : goal.returns
returns c = asked_so (map routine_of c.args.program.now) (job_of c.args.job.now) _ _ _
    c.next_asked-asked.ensures c.state.ensures c.asked_if.ensures
