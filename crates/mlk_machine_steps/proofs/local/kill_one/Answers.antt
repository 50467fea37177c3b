use Rattle.std.proofs.Common.{ℕ, List, Ok, ap, sym, ◌∙◌}
use Rattle.mlk_machine_jobs.specs.Bindings.{Only}
use Rattle.mlk_machine_jobs.specs.JobViews.{job_of, cleared, killing}
use Rattle.mlk_machine_steps.proofs.KillLemmas.{one_killing}
use Rattle.mlk_machine_steps.proofs.local.kill_one.Goals as goal

pub returns-clause-answer : goal.returns-clause-answer
returns-clause-answer c =
    c.in_ok-nothing_asked.ensures (killing (Only c.args.name.now) (job_of c.args.job.now))
    ∙ ap Ok (sym (c.clear.ensures.changed
    ∙ ap (λ (n : List ℕ). cleared n (job_of c.args.job.now)) c.as_bytes.ensures
    ∙ one_killing (job_of c.args.job.now) c.args.name.now))
