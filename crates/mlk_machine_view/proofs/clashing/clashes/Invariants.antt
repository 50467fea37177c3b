use Rattle.std.proofs.Common.{◌≡◌, ◌++◌, ◌-◌, length, map, drop}
use Rattle.mlk_machine_jobs.specs.JobViews.{job_of}
use Rattle.mlk_machine_view.specs.Clashes.{clashes}
use Rattle.mlk_machine_view.proofs.clashing.clashes.Given as goal

abbrev pub invariant-loop-place : goal.invariant-loop-place
invariant-loop-place l = l.pairs.items ++ clashes (map job_of (drop l.place l.jobs)) ≡ clashes (map job_of l.jobs)

abbrev pub decreases-loop-place : goal.decreases-loop-place
decreases-loop-place l = length l.jobs - l.place
