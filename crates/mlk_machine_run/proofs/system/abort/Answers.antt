use Rattle.std.proofs.Common.{◌≡◌, ◌∙◌, ◌==◌, List, map, length, Some, Ok, refl, ap, sym}
use Rattle.std.proofs.lemmas.Option.{slice_get_read}
use Rattle.std.specs.Prelude.{slice_set, position}
use Rattle.mlk_machine_locks.specs.Systems.{and_then}
use Rattle.mlk_machine_jobs.specs.Tasks.{Job}
use Rattle.mlk_machine_jobs.specs.Runs.{machine, seen, aborted}
use Rattle.mlk_machine_jobs.specs.JobViews.{job_of}
use Rattle.mlk_machine_run.proofs.SystemLemmas.{found_within, sound_at, sound_set, job_at, jobs_set, changed_none, changed_at, on_err, all_stay, aborted_so}
use Rattle.mlk_machine_run.proofs.CoverLemmas.{set_covered, aborted_takes}
use Rattle.mlk_machine_run.proofs.system.abort.Goals as goal

pub returns-in_default-clause-answer : goal.returns-in_default-clause-answer
returns-in_default-clause-answer c = λ routines declared.
    changed_none (machine routines declared) _ c.args.number (map job_of c.args.jobs.now.items)
    (sym c.requires.place.first ∙ c.in_default.is)

pub returns-clause-sound : goal.returns-clause-sound
returns-clause-sound c =
    sound_set c.args.jobs.now.items c.in-Some.place c.abort.new.self c.requires.sound
    (c.abort.ensures.sound (sound_at c.args.jobs.now.items c.in-Some.place c.index_mut.result.now
    (found_within c.args.jobs.now.items c.args.place c.in-Some.place c.in-Some.is c.requires.place.within) c.index_mut.ensures.value c.requires.sound))

pub returns-clause-stays : goal.returns-clause-stays
returns-clause-stays c =
    on_err c.abort.result (λ e. all_stay c.args.jobs.now.items c.in-Some.place c.index_mut.result.now c.abort.new.self
    c.index_mut.ensures.value (ap job_of e)) c.abort.ensures.stays

pub returns-clause-answer : goal.returns-clause-answer
returns-clause-answer c = λ routines declared.
    let js = c.args.jobs.now.items in
    let found : position (λ (j : Job). (seen j).number == c.args.number) (map job_of js) ≡ Some c.in-Some.place =
    sym c.requires.place.first ∙ c.in-Some.is in
    changed_at (machine routines declared) (λ (j : Job). aborted j j.tasks) c.args.number (map job_of js) c.in-Some.place
    (job_of c.index_mut.result.now) found (job_at js c.in-Some.place c.index_mut.result.now c.index_mut.ensures.value)
    ∙ aborted_so c.abort.result _ (job_of c.abort.new.self) (λ y. slice_set (map job_of js) c.in-Some.place y)
    c.abort.ensures.ok c.abort.ensures.err
    ∙ ap (λ (z : List Job). and_then (λ _. Ok z) c.abort.result) (jobs_set js c.in-Some.place c.abort.new.self)

pub returns-clause-covered : goal.returns-clause-covered
returns-clause-covered c =
    let js = c.args.jobs.now.items in
    set_covered js c.in-Some.place c.index_mut.result.now c.abort.new.self
    (slice_get_read js (length js) c.in-Some.place c.index_mut.result.now refl
    (found_within js c.args.place c.in-Some.place c.in-Some.is c.requires.place.within) c.index_mut.ensures.value)
    (aborted_takes c.abort.result c.index_mut.result.now c.abort.new.self c.abort.ensures.ok c.abort.ensures.stays)
