use Rattle.std.proofs.Common.{◌≡◌, ◌++◌, map, drop}
use Rattle.std.specs.Prelude.{flat_map}
use Rattle.mlk_machine_jobs.specs.JobViews.{job_of}
use Rattle.mlk_machine_view.specs.Clashes.{waits_of, waits_among}
use Rattle.mlk_machine_view.proofs.wait.waiting_pairs.Given as goal

abbrev pub invariant-loop-job : goal.invariant-loop-job
invariant-loop-job l =
    l.pairs.items ++ flat_map (λ j. waits_of j (map job_of l.jobs)) (map job_of (drop l.job-index l.jobs)) ≡ waits_among (map job_of l.jobs)
