use Rattle.std.proofs.Common.{◌≡◌, ◌≤◌, ◌-◌, map}
use Rattle.mlk_syntax.specs.Views.{routine_of}
use Rattle.mlk_machine_jobs.specs.JobViews.{job_of}
use Rattle.mlk_machine_jobs.specs.Sound.{Sound}
use Rattle.mlk_machine_jobs.specs.Seen.{settled}
use Rattle.mlk_machine_run.specs.Jobs.{TakesNone}
use Rattle.mlk_machine.proofs.settling.settle.Given as goal

abbrev pub invariant-loop-count : goal.invariant-loop-count
invariant-loop-count l =
    (settled (map routine_of l.program) l.count (job_of l.fn.job) ≡ (job_of l.job, l.count))
    × (l.count ≤ 65536) × Sound l.job × TakesNone (job_of l.fn.job) (job_of l.job)

abbrev pub decreases-loop-count : goal.decreases-loop-count
decreases-loop-count l = 65536 - l.count
