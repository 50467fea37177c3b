use Rattle.std.proofs.Common.{◌≡◌, ◌++◌, map, drop}
use Rattle.mlk_machine_jobs.specs.JobViews.{job_of}
use Rattle.mlk_machine_view.specs.Clashes.{clashes_with}
use Rattle.mlk_machine_view.proofs.clashing.add_clashes.Given as goal

abbrev pub invariant-loop-other : goal.invariant-loop-other
invariant-loop-other l = l.pairs.items ++ clashes_with (job_of l.job) (map job_of (drop l.other-index l.others))
    ≡ l.fn.pairs.items ++ clashes_with (job_of l.job) (map job_of l.others)
