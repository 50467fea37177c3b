use Rattle.std.proofs.Common.{◌≡◌, ◌∙◌, map, length, refl, sym, ap, subst}
use Rattle.std.proofs.lemmas.Option.{slice_get_read}
use Rattle.mlk_syntax.specs.Views.{routine_of}
use Rattle.mlk_machine_jobs.specs.JobViews.{job_of}
use Rattle.mlk_machine_jobs.specs.Seen.{settled, most_silent_steps}
use Rattle.mlk_machine_jobs.specs.Tasks.{Job}
use Rattle.mlk_machine_run.specs.Jobs.{TakesNone}
use Rattle.mlk_machine_run.proofs.SystemLemmas.{found_within, sound_at, sound_set}
use Rattle.mlk_machine_run.proofs.CoverLemmas.{set_covered}
use Rattle.mlk_machine.proofs.NumberLemmas.{no_job_settled, job_settled, settled_numbers}
use Rattle.mlk_machine.proofs.settling.settle_numbered.Goals as goal

pub returns-in_default-clause-answer : goal.returns-in_default-clause-answer
returns-in_default-clause-answer c =
    no_job_settled c.args.number c.args.jobs.now.items c.place_in.result
    (c.place_in.ensures c.args.jobs.now.items c.requires.numbers) (map routine_of c.args.program.now) c.in_default.is

pub settle-requires : goal.settle-requires
settle-requires c =
    c.in_ok-job.ensures.sound
    (sound_at c.args.jobs.now.items c.in-Some.place c.index.result.now
    (found_within c.args.jobs.now.items c.place_in.result c.in-Some.place c.in-Some.is
    (c.place_in.ensures c.args.jobs.now.items c.requires.numbers).within) c.index.ensures c.requires.sound)

pub returns-clause-answer : goal.returns-clause-answer
returns-clause-answer c =
    let same : job_of c.in_ok-job.job ≡ job_of c.index.result.now = c.in_ok-job.ensures.same in
    job_settled c.args.number c.args.jobs.now.items c.place_in.result
    (c.place_in.ensures c.args.jobs.now.items c.requires.numbers) (map routine_of c.args.program.now) c.in-Some.place
    c.index.result.now c.settle.new.job c.in_ok-count.count c.in-Some.is c.index.ensures
    (ap (settled (map routine_of c.args.program.now) most_silent_steps) (sym same) ∙ c.in_ok-count.ensures.settled)

pub returns-clause-sound : goal.returns-clause-sound
returns-clause-sound c =
    sound_set c.args.jobs.now.items c.in-Some.place c.settle.new.job c.requires.sound c.settle.ensures.sound

pub returns-clause-numbers : goal.returns-clause-numbers
returns-clause-numbers c =
    c.requires.numbers
    ∙ sym (settled_numbers (map routine_of c.args.program.now) c.args.jobs.now.items c.in-Some.place c.index.result.now
    c.in_ok-job.job c.settle.new.job c.in_ok-count.count c.index.ensures c.in_ok-job.ensures.same c.in_ok-count.ensures.settled)

pub returns-clause-covered : goal.returns-clause-covered
returns-clause-covered c =
    let js = c.args.jobs.now.items in
    set_covered js c.in-Some.place c.index.result.now c.settle.new.job
    (slice_get_read js (length js) c.in-Some.place c.index.result.now refl
    (found_within js c.place_in.result c.in-Some.place c.in-Some.is
    (c.place_in.ensures js c.requires.numbers).within) c.index.ensures)
    (subst (λ (j : Job). TakesNone j (job_of c.settle.new.job)) c.in_ok-job.ensures.same c.settle.ensures.held)
