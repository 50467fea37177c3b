use Rattle.std.proofs.Common.{◌∙◌, arith, length, refl, sym}
use Rattle.std.proofs.lemmas.Option.{slice_get_read, slice_get-get_or}
use Rattle.mlk_machine_locks.specs.Waiting.{waits_as}
use Rattle.mlk_machine_locks.proofs.SearchLemmas.{next_found, next_passed}
use Rattle.mlk_machine_locks.proofs.ring.leads.Goals as goal

pub returns-clause-found : goal.returns-clause-found
returns-clause-found g c = λ same. next_found (waits_as g.J.Seen.seen) c.args.jobs.now c.args.marks.now c.args.job.now
    c.index-jobs-place.result _ c.args.place
    (slice_get_read c.args.jobs.now (length c.args.jobs.now) c.args.place c.index-jobs-place.result refl
    (omega (arith, c.if-place-jobs.false)) c.index-jobs-place.is)
    (slice_get-get_or c.args.marks.now c.args.place _ (omega (arith, c.requires.all, c.if-place-jobs.false)))
    (sym same ∙ c.follows.ensures)

pub returns-clause-none : goal.returns-clause-none
returns-clause-none g c = λ same. next_passed (waits_as g.J.Seen.seen) c.args.jobs.now c.args.marks.now c.args.job.now
    c.index-jobs-place.result _ c.args.place c.requires.free
    (slice_get_read c.args.jobs.now (length c.args.jobs.now) c.args.place c.index-jobs-place.result refl
    (omega (arith, c.if-place-jobs.false)) c.index-jobs-place.is)
    (slice_get-get_or c.args.marks.now c.args.place _ (omega (arith, c.requires.all, c.if-place-jobs.false)))
    (sym same ∙ c.follows.ensures)
