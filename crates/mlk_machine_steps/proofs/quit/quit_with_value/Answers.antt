use Rattle.std.proofs.Common.{Ok, ap, sym, ◌∙◌}
use Rattle.mlk_machine_jobs.specs.Tasks.{Job}
use Rattle.mlk_machine_jobs.specs.Lines.{to_end, answered}
use Rattle.mlk_machine_jobs.specs.JobViews.{job_of}
use Rattle.mlk_machine_jobs.proofs.AnswerLemmas.{answered_again}
use Rattle.mlk_machine_steps.proofs.quit.quit_with_value.Goals as goal

pub returns-clause-answer : goal.returns-clause-answer
returns-clause-answer c =
    c.in_ok-nothing_asked.ensures (answered (job_of c.args.job.now) (to_end (job_of c.args.job.now).tasks))
    ∙ ap Ok (sym (c.answer.ensures.changed
    ∙ ap (λ (j : Job). answered j j.tasks) c.go_to_end.ensures.changed
    ∙ answered_again (job_of c.args.job.now) (to_end (job_of c.args.job.now).tasks) (to_end (job_of c.args.job.now).tasks)))
