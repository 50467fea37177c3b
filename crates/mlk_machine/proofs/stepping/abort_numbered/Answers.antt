use Rattle.std.proofs.Common.{◌∙◌, map, false, [], sym}
use Rattle.mlk_machine_jobs.specs.JobViews.{job_of}
use Rattle.mlk_machine.proofs.NumberLemmas.{stopped_numbers}
use Rattle.mlk_machine.proofs.stepping.abort_numbered.Goals as goal

pub returns-in-Ok-clause-numbers : goal.returns-in-Ok-clause-numbers
returns-in-Ok-clause-numbers c =
    c.requires.numbers
    ∙ sym (stopped_numbers [] (λ e. false) (map job_of c.args.jobs.now.items) (map job_of c.abort.new.jobs.items) c.args.number
    (c.in-Ok.ensures.answer [] (λ e. false)))
