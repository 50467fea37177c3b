use Rattle.mlk_machine_jobs.specs.JobViews.{job_of}
use Rattle.mlk_machine_view.proofs.ClashLemmas.{clash_exact}
use Rattle.mlk_machine_view.proofs.clashing.is_clash.Goals as goal

pub returns-clause-exact : goal.returns-clause-exact
returns-clause-exact c = clash_exact (job_of c.args.job.now) (job_of c.args.other.now) c.is_tested_clash.result c.is_tested_clash.ensures
