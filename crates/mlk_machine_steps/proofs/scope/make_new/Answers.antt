use Rattle.std.proofs.Common.{List, [], ◌∷◌, ◌++◌, Ok, ap, sym, ◌∙◌}
use Rattle.mlk_machine_jobs.specs.declared.binding.Binder.{Binder}
use Rattle.mlk_machine_jobs.specs.declared.binding.Binder.TheVariants as binder
use Rattle.mlk_machine_jobs.specs.Views.{names_of}
use Rattle.mlk_machine_jobs.specs.JobViews.{job_of}
use Rattle.mlk_machine_steps.specs.Steps.{made_new}
use Rattle.mlk_machine_steps.proofs.ScopeLemmas.{job_new, sound_new}
use Rattle.mlk_machine_steps.proofs.scope.make_new.Goals as goal

pub returns-clause-answer : goal.returns-clause-answer
returns-clause-answer c =
    c.in_ok-nothing_asked.ensures (made_new (names_of c.args.names) (job_of c.args.job.now))
    ∙ ap Ok (sym (job_new c.args.job.now c.args.names c.next_generation-generation.result _ _ _ c.requires c.next_generation-generation.ensures
    (c.push_reserved.ensures.items ∙ ap (λ (bs : List Binder). bs ++ binder.Fresh c.next_generation-generation.result c.args.names ∷ [])
    c.in_ok-reserve.ensures.items)
    c.in_ok-add_generation.ensures.len c.in_ok-add_generation.ensures.values))

pub returns-clause-sound : goal.returns-clause-sound
returns-clause-sound c =
    sound_new c.args.job.now c.args.names c.next_generation-generation.result _ _ c.requires c.next_generation-generation.ensures
    (c.push_reserved.ensures.items ∙ ap (λ (bs : List Binder). bs ++ binder.Fresh c.next_generation-generation.result c.args.names ∷ [])
    c.in_ok-reserve.ensures.items)
    c.in_ok-add_generation.ensures.len
