use Rattle.std.proofs.Common.{◌≡◌, ◌∙◌, List, [], ◌∷◌, ◌++◌, ap, sym, subst}
use Rattle.std.specs.Prelude.{map}
use Rattle.mlk_syntax.specs.Views.{routine_of}
use Rattle.mlk_text.specs.Failures.{FailsAs}
use Rattle.mlk_machine_jobs.specs.declared.pending.Pending.{Pending}
use Rattle.mlk_machine_jobs.specs.Choices.{Stepped}
use Rattle.mlk_machine_jobs.specs.JobViews.{job_of, pending_of, tasks_of}
use Rattle.mlk_machine_jobs.proofs.PendingLemmas.{tasks_after}
use Rattle.mlk_machine_run.proofs.RestoreLemmas.{restored, sound_restored, free_before, go_first}
use Rattle.mlk_machine_run.proofs.stepping.step.Goals as goal

pub returns-in-Ok-clause-answer : goal.returns-in-Ok-clause-answer
returns-in-Ok-clause-answer c = λ free h.
    let bs = c.args.job.now.binders.items in
    let taken : tasks_of bs c.args.job.now.pending.items ≡ pending_of bs c.in-Some.next ∷ tasks_of bs c.pop.new.self.items =
    ap (tasks_of bs) c.in-Some.ensures.items ∙ tasks_after bs c.pop.new.self.items c.in-Some.next in
    go_first (map routine_of c.args.program.now) free c.args.choice (job_of c.args.job.now) (pending_of bs c.in-Some.next)
    (tasks_of bs c.pop.new.self.items) taken
    ∙ c.in-Ok.ensures.answer free
    (free_before free c.args.are_free (job_of c.args.job.now) (pending_of bs c.in-Some.next) (tasks_of bs c.pop.new.self.items)
    taken h)

pub returns-in-Err-clause-answer : goal.returns-in-Err-clause-answer
returns-in-Err-clause-answer c = λ free h.
    let bs = c.args.job.now.binders.items in
    let taken : tasks_of bs c.args.job.now.pending.items ≡ pending_of bs c.in-Some.next ∷ tasks_of bs c.pop.new.self.items =
    ap (tasks_of bs) c.in-Some.ensures.items ∙ tasks_after bs c.pop.new.self.items c.in-Some.next in
    subst (λ (s : Stepped). FailsAs c.in-Err.why s)
    (sym (go_first (map routine_of c.args.program.now) free c.args.choice (job_of c.args.job.now) (pending_of bs c.in-Some.next)
    (tasks_of bs c.pop.new.self.items) taken))
    (c.in-Err.ensures.answer free
    (free_before free c.args.are_free (job_of c.args.job.now) (pending_of bs c.in-Some.next) (tasks_of bs c.pop.new.self.items)
    taken h))

pub returns-in-Err-clause-stays : goal.returns-in-Err-clause-stays
returns-in-Err-clause-stays c =
    restored c.args.job.now c.perform_next.new.job (tasks_of c.args.job.now.binders.items c.pop.new.self.items)
    c.push_reserved.new.self.items c.in-Err.ensures.stays
    (c.push_reserved.ensures.items
    ∙ ap (λ (ps : List Pending). ps ++ c.in-Some.next ∷ []) c.in-Err.ensures.room.0
    ∙ sym c.in-Some.ensures.items)

pub returns-in-Err-clause-sound : goal.returns-in-Err-clause-sound
returns-in-Err-clause-sound c =
    sound_restored c.args.job.now c.perform_next.new.job (tasks_of c.args.job.now.binders.items c.pop.new.self.items)
    c.push_reserved.new.self.items c.in-Err.ensures.stays
    (c.push_reserved.ensures.items
    ∙ ap (λ (ps : List Pending). ps ++ c.in-Some.next ∷ []) c.in-Err.ensures.room.0
    ∙ sym c.in-Some.ensures.items)
    c.requires
