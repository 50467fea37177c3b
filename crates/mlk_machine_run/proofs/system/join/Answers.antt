use Rattle.std.proofs.Common.{◌≡◌, ◌∙◌, false, [], ◌∷◌, ◌++◌, map, Ok, Some, ap, sym, subst}
use Rattle.std.specs.Prelude.{◌&&◌}
use Rattle.std.proofs.lemmas.Bool.{and_parts}
use Rattle.std.proofs.lemmas.List.{map-append}
use Rattle.mlk_text.specs.Failures.{FailsAs}
use Rattle.mlk_machine_locks.specs.Waiting.{is_numbered}
use Rattle.mlk_machine_locks.specs.Systems.{and_then}
use Rattle.mlk_syntax.specs.Views.{routine_of}
use Rattle.mlk_machine_jobs.specs.Tasks.{Job}
use Rattle.mlk_machine_jobs.specs.Runs.{machine, seen, is_job_number}
use Rattle.mlk_machine_jobs.specs.JobViews.{job_of}
use Rattle.mlk_machine_run.specs.Jobs.{AreSound, StayCovered}
use Rattle.mlk_machine_run.proofs.SystemLemmas.{join_used, join_declared, fails_then, sound_more}
use Rattle.mlk_machine_run.proofs.CoverLemmas.{added_covered, begun_holds}
use Rattle.mlk_machine_run.proofs.system.join.Goals as goal

pub returns-then-is_used-clause-answer : goal.returns-then-is_used-clause-answer
returns-then-is_used-clause-answer c = λ declared h.
    join_used (machine (map routine_of c.args.program.now) declared) c.args.beginning.now.number (map job_of c.args.jobs.now.items) _
    (sym c.requires.used ∙ c.if-is_used.true)

pub returns-in-Ok-push-clause-sound : goal.returns-in-Ok-push-clause-sound
returns-in-Ok-push-clause-sound c =
    subst AreSound (sym c.in-Ok-push.ensures.items)
    (sound_more c.args.jobs.now.items c.in-Ok.job c.requires.sound c.in-Ok.ensures.sound)

pub returns-in-Ok-push-clause-answer : goal.returns-in-Ok-push-clause-answer
returns-in-Ok-push-clause-answer c = λ declared h.
    let js = c.args.jobs.now.items in
    let unused : is_numbered seen (map job_of js) c.args.beginning.now.number ≡ false =
    sym c.requires.used ∙ c.if-is_used.false in
    join_declared (machine (map routine_of c.args.program.now) declared) c.args.beginning.now.number (map job_of js) _
    (declared c.args.beginning.now.entry && is_job_number c.args.beginning.now.number)
    (ap (λ d. d && is_job_number c.args.beginning.now.number) h ∙ sym c.may_begin.ensures ∙ c.if-not-may_begin.false) unused
    ∙ ap (and_then (λ (j : Job). Ok (map job_of js ++ j ∷ []))) c.in-Ok.ensures.job
    ∙ ap Ok (sym (ap (map job_of) c.in-Ok-push.ensures.items ∙ map-append job_of js (c.in-Ok.job ∷ [])))

pub returns-in-Err-clause-answer : goal.returns-in-Err-clause-answer
returns-in-Err-clause-answer c = λ declared h.
    let js = c.args.jobs.now.items in
    let unused : is_numbered seen (map job_of js) c.args.beginning.now.number ≡ false =
    sym c.requires.used ∙ c.if-is_used.false in
    subst (λ s. FailsAs c.in-Err.why s)
    (sym (join_declared (machine (map routine_of c.args.program.now) declared) c.args.beginning.now.number (map job_of js) _
    (declared c.args.beginning.now.entry && is_job_number c.args.beginning.now.number)
    (ap (λ d. d && is_job_number c.args.beginning.now.number) h ∙ sym c.may_begin.ensures ∙ c.if-not-may_begin.false) unused))
    (fails_then (λ (j : Job). Ok (map job_of js ++ j ∷ [])) c.in-Err.why _ c.in-Err.ensures.job)

pub returns-in_default-clause-covered : goal.returns-in_default-clause-covered
returns-in_default-clause-covered c =
    subst (StayCovered c.args.jobs.now.items) (sym c.in_default.ensures.items) (λ t covers. covers)

pub returns-in-Ok-push-clause-covered : goal.returns-in-Ok-push-clause-covered
returns-in-Ok-push-clause-covered c =
    subst (StayCovered c.args.jobs.now.items) (sym c.in-Ok-push.ensures.items)
    (added_covered c.args.jobs.now.items c.in-Ok.job
    (begun_holds (map routine_of c.args.program.now) c.args.beginning.now.entry c.args.beginning.now.number c.args.beginning.now.test (map Some c.args.beginning.now.values.now) c.in-Ok.job
    (and_parts c.args.is_declared (is_job_number c.args.beginning.now.number) (sym c.may_begin.ensures ∙ c.if-not-may_begin.false)).1
    c.in-Ok.ensures.job))
