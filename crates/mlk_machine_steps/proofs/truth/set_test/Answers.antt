use Rattle.std.proofs.Common.{ap, sym, ◌∙◌}
use Rattle.mlk_machine_jobs.specs.Choices.{doing, dropped}
use Rattle.mlk_machine_jobs.specs.Locking.{tested}
use Rattle.mlk_machine_jobs.specs.JobViews.{job_of}
use Rattle.mlk_machine_steps.proofs.TruthLemmas.{by_truth_in, by_answer}
use Rattle.mlk_machine_steps.proofs.truth.set_test.Goals as goal

pub returns-clause-answer : goal.returns-clause-answer
returns-clause-answer c =
    by_answer c.args.choice.now (job_of c.args.job.now).values c.in_ok-truth.truth
    (λ t. doing (job_of c.args.job.now).tasks (tested t (dropped 1 (job_of c.args.job.now)))) _ _
    (by_truth_in c.args.choice.now (job_of c.args.job.now) (λ t i. doing (job_of c.args.job.now).tasks (tested t i)))
    (sym c.last_truth.ensures ∙ c.in_ok-truth.ensures)
    (c.set_test.ensures.changed ∙ ap (tested c.in_ok-truth.truth) c.use_up.ensures.changed)
