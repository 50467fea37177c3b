use Rattle.std.proofs.Common.{◌≡◌, ◌++◌, map, drop}
use Rattle.mlk_machine_jobs.specs.JobViews.{job_of}
use Rattle.mlk_machine_view.specs.Clashes.{waits_of}
use Rattle.mlk_machine_view.proofs.wait.add_waits.Given as goal

abbrev pub invariant-loop-other : goal.invariant-loop-other
invariant-loop-other l = l.pairs.items ++ waits_of (job_of l.job) (map job_of (drop l.other-index l.others))
    ≡ l.fn.pairs.items ++ waits_of (job_of l.job) (map job_of l.others)
