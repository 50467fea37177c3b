use Rattle.std.proofs.Common.{◌∙◌, map, sym}
use Rattle.std.specs.Prelude.{true}
use Rattle.mlk_syntax.specs.Views.{routine_of}
use Rattle.mlk_machine_jobs.specs.declared.choice.Choice.TheVariants as choice
use Rattle.mlk_machine_jobs.specs.JobViews.{job_of}
use Rattle.mlk_machine_jobs.specs.Tasks.{Job}
use Rattle.mlk_machine_run.specs.Frames.{claimed_in}
use Rattle.mlk_machine_run.proofs.SilentLemmas.{hidden_made, hidden_claims, all_free}
use Rattle.mlk_machine_run.proofs.CoverLemmas.{took_claimed, takes_none}
use Rattle.mlk_machine_run.proofs.silent.silent_step.Goals as goal

pub returns-in-Ok-clause-made : goal.returns-in-Ok-clause-made
returns-in-Ok-clause-made c =
    hidden_made (map routine_of c.args.program.now) (job_of c.args.job.now) (job_of c.step.new.job)
    (sym c.is_shown.ensures ∙ c.if-is_shown.false)
    (c.in-Ok.ensures.answer (λ n. true) (all_free (claimed_in (job_of c.args.job.now).tasks)))

pub returns-in-Ok-clause-held : goal.returns-in-Ok-clause-held
returns-in-Ok-clause-held c =
    let old : Job = job_of c.args.job.now in
    let new : Job = job_of c.step.new.job in
    takes_none old new (hidden_claims old.tasks (sym c.is_shown.ensures ∙ c.if-is_shown.false))
    (took_claimed (map routine_of c.args.program.now) (λ n. true) choice.None true old new (all_free (claimed_in old.tasks))
    c.in-Ok.ensures.answer)
