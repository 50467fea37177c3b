use Rattle.std.proofs.Common.{◌∙◌, map, false, sym}
use Rattle.mlk_syntax.specs.Views.{routine_of}
use Rattle.mlk_machine_jobs.specs.JobViews.{job_of}
use Rattle.mlk_machine.proofs.NumberLemmas.{went_numbers}
use Rattle.mlk_machine.proofs.stepping.go_numbered.Goals as goal

pub returns-clause-numbers : goal.returns-clause-numbers
returns-clause-numbers c =
    c.requires.numbers
    ∙ sym (went_numbers (map routine_of c.args.program.now) (λ e. false) (map job_of c.args.jobs.now.items)
    (map job_of c.step_job.new.jobs.items) c.args.turn.number c.args.turn.choice c.step_job.result (c.step_job.ensures.answer (λ e. false)) c.step_job.ensures.stays)
