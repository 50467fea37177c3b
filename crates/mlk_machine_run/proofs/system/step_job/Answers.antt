use Rattle.std.proofs.Common.{◌≡◌, ◌∙◌, ◌==◌, Bool, List, map, length, Some, Ok, refl, ap, sym, subst}
use Rattle.std.proofs.lemmas.Option.{slice_get_read}
use Rattle.std.specs.Prelude.{slice_set, position}
use Rattle.std.specs.List.{list_all}
use Rattle.mlk_names.specs.Lists.{Among}
use Rattle.mlk_names.specs.declared.lock_name.LockName.{LockName}
use Rattle.mlk_text.specs.Failures.{Answers}
use Rattle.mlk_machine_locks.specs.Tables.{IsFound, Covers}
use Rattle.mlk_machine_locks.specs.Waiting.{is_free_among}
use Rattle.mlk_machine_locks.specs.Systems.{and_then}
use Rattle.mlk_syntax.specs.Views.{routine_of}
use Rattle.mlk_machine_jobs.specs.declared.job.Job.{Job as JobIn}
use Rattle.mlk_machine_jobs.specs.Tasks.{Job}
use Rattle.mlk_machine_jobs.specs.Runs.{machine, seen, go}
use Rattle.mlk_machine_jobs.specs.JobViews.{job_of}
use Rattle.mlk_machine_run.specs.Frames.{claimed_in}
use Rattle.mlk_machine_run.specs.Jobs.{seen_in}
use Rattle.mlk_machine_run.proofs.SystemLemmas.{found_within, sound_at, sound_set, job_at, jobs_set, changed_none, changed_at, answers_all, on_err, all_stay, claimed_at, claimed_free}
use Rattle.mlk_machine_run.proofs.CoverLemmas.{takes_claimed, more_covered, claim_covered}
use Rattle.mlk_machine_run.proofs.system.step_job.Goals as goal

pub returns-in_default-clause-answer : goal.returns-in_default-clause-answer
returns-in_default-clause-answer c = λ declared.
    changed_none (machine (map routine_of c.args.program.now) declared) _ c.args.turn.number (map job_of c.args.jobs.now.items)
    (sym c.requires.place.first ∙ c.in_default.is)

pub step-requires : goal.step-requires
step-requires c =
    sound_at c.args.jobs.now.items c.in-Some.place c.index_mut.result.now
    (found_within c.args.jobs.now.items c.args.place c.in-Some.place c.in-Some.is c.requires.place.within) c.index_mut.ensures.value c.requires.sound

pub returns-clause-sound : goal.returns-clause-sound
returns-clause-sound c =
    sound_set c.args.jobs.now.items c.in-Some.place c.step.new.job c.requires.sound c.step.ensures.sound

pub returns-clause-stays : goal.returns-clause-stays
returns-clause-stays c =
    on_err c.step.result (all_stay c.args.jobs.now.items c.in-Some.place c.index_mut.result.now c.step.new.job
    c.index_mut.ensures.value) c.step.ensures.stays

pub are_free-are_free-requires : goal.are_free-are_free-requires
are_free-are_free-requires c =
    subst (λ (xs : List JobIn). Covers seen_in c.args.table.now xs) (sym c.as_slice.ensures.value) c.requires.covers

pub returns-in_err-list-clause-covers : goal.returns-in_err-list-clause-covers
returns-in_err-list-clause-covers c =
    more_covered c.are_free-are_free.new.self c.list.new.self c.list.ensures.kept c.args.jobs.now.items
    (subst (λ (xs : List JobIn). Covers seen_in c.are_free-are_free.new.self xs) c.as_slice.ensures.value
    c.are_free-are_free.ensures.covers)

pub returns-clause-answer : goal.returns-clause-answer
returns-clause-answer c = λ declared.
    let js = c.args.jobs.now.items in
    let free : LockName → Bool = is_free_among seen (map job_of js) c.args.turn.number in
    let found : position (λ (j : Job). (seen j).number == c.args.turn.number) (map job_of js) ≡ Some c.in-Some.place =
    sym c.requires.place.first ∙ c.in-Some.is in
    let given : list_all free (claimed_in (job_of c.index_mut.result.now).tasks) ≡ c.are_free-are_free.result =
    claimed_free js c.in-Some.place c.index.result.now c.index_mut.result.now
    (found_within js c.args.place c.in-Some.place c.in-Some.is c.requires.place.within) c.index.ensures c.index_mut.ensures.value
    c.claimed_names-names.result.now c.claimed_names-names.ensures c.args.turn.number c.are_free-are_free.result
    (c.are_free-are_free.ensures.free
    ∙ ap (λ (xs : List JobIn). list_all (is_free_among seen_in xs c.args.turn.number) c.claimed_names-names.result.now)
    c.as_slice.ensures.value) in
    subst (λ (s : _). Answers (λ _. map job_of (slice_set js c.in-Some.place c.step.new.job)) c.step.result s)
    (sym (changed_at (machine (map routine_of c.args.program.now) declared)
    (go (map routine_of c.args.program.now) free c.args.turn.choice) c.args.turn.number (map job_of js) c.in-Some.place
    (job_of c.index_mut.result.now) found (job_at js c.in-Some.place c.index_mut.result.now c.index_mut.ensures.value)))
    (subst (λ (z : List Job). Answers (λ _. z) c.step.result
    (and_then (λ y. Ok (slice_set (map job_of js) c.in-Some.place y))
    (go (map routine_of c.args.program.now) free c.args.turn.choice (job_of c.index_mut.result.now))))
    (jobs_set js c.in-Some.place c.step.new.job)
    (answers_all (λ y. slice_set (map job_of js) c.in-Some.place y) c.step.result (job_of c.step.new.job) _
    (c.step.ensures.answer free given)))

pub returns-clause-covers : goal.returns-clause-covers
returns-clause-covers c =
    let js = c.args.jobs.now.items in
    let old : JobIn = c.index_mut.result.now in
    let free : LockName → Bool = is_free_among seen (map job_of js) c.args.turn.number in
    let within = found_within js c.args.place c.in-Some.place c.in-Some.is c.requires.place.within in
    let given : list_all free (claimed_in (job_of old).tasks) ≡ c.are_free-are_free.result =
    claimed_free js c.in-Some.place c.index.result.now old within c.index.ensures c.index_mut.ensures.value
    c.claimed_names-names.result.now c.claimed_names-names.ensures c.args.turn.number c.are_free-are_free.result
    (c.are_free-are_free.ensures.free
    ∙ ap (λ (xs : List JobIn). list_all (is_free_among seen_in xs c.args.turn.number) c.claimed_names-names.result.now)
    c.as_slice.ensures.value) in
    claim_covered c.are_free-are_free.new.self c.list.new.self c.list.ensures.kept js
    (subst (λ (xs : List JobIn). Covers seen_in c.are_free-are_free.new.self xs) c.as_slice.ensures.value
    c.are_free-are_free.ensures.covers)
    c.in-Some.place old c.step.new.job (slice_get_read js (length js) c.in-Some.place old refl within c.index_mut.ensures.value)
    (subst (λ (names : List LockName). (n : LockName) → Among n names → IsFound c.list.new.self c.in-Some.place n)
    (claimed_at js c.in-Some.place c.index.result.now old within c.index.ensures c.index_mut.ensures.value
    c.claimed_names-names.result.now c.claimed_names-names.ensures)
    c.in_ok-list.ensures.found)
    (takes_claimed (map routine_of c.args.program.now) free c.args.turn.choice c.are_free-are_free.result c.step.result
    (job_of old) (job_of c.step.new.job) given c.step.ensures.answer c.step.ensures.stays)
