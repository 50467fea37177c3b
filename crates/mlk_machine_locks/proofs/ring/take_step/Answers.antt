use Rattle.std.proofs.Common.{◌≡◌, ◌∙◌, ◌<◌, arith, length, reverse, set, sym, ap, subst, refl, List, ℕ}
use Rattle.std.specs.List.{sum_by}
use Rattle.mlk_machine_locks.specs.declared.ring.Mark.{Mark}
use Rattle.mlk_machine_locks.specs.declared.ring.Mark.TheVariants.{OnPath}
use Rattle.mlk_machine_locks.specs.declared.ring.Stop.{Stop}
use Rattle.mlk_machine_locks.specs.Waiting.{waits_as}
use Rattle.mlk_machine_locks.specs.Searches.{is_new, IsMet, IsNext, Searching, weight}
use Rattle.mlk_machine_locks.proofs.SearchLemmas.{stop_is, stop_within, left_at, next_there, next_within, on_path_at, new_at, freed, freed_met, followed, followed_met, longer, less_by_new}
use Rattle.mlk_machine_locks.proofs.ring.take_step.Goals as goal

pub next_of-requires-clause-left : goal.next_of-requires-clause-left
next_of-requires-clause-left g c = left_at (waits_as g.J.Seen.seen) c.args.jobs.now c.args.marks.now.items c.args.stop
    (reverse c.args.path.now.items) c.index-jobs-place.result c.requires.goes
    (stop_is (waits_as g.J.Seen.seen) c.args.jobs.now c.args.marks.now.items c.args.stop (reverse c.args.path.now.items)
    c.index-jobs-place.result c.requires.goes c.index-jobs-place.is)

pub index_mut-requires : goal.index_mut-requires
index_mut-requires g c = omega (
  arith,
  c.args.marks.now.ok,
  stop_within (waits_as g.J.Seen.seen) c.args.jobs.now
      c.args.marks.now.items c.args.stop (reverse c.args.path.now.items) c.requires.goes,
)

pub index-requires : goal.index-requires
index-requires g c = omega (
  arith,
  c.args.marks.now.ok,
  next_within (waits_as g.J.Seen.seen) c.args.jobs.now
      c.args.marks.now.items c.index-jobs-place.result
      c.in-Some.next (subst (λ ms. IsNext (waits_as g.J.Seen.seen) c.args.jobs.now ms c.index-jobs-place.result c.in-Some.next)
      c.as_slice.ensures.value c.in-Some.ensures.found),
)

pub stop_at-requires-clause-within : goal.stop_at-requires-clause-within
stop_at-requires-clause-within g c = next_there (waits_as g.J.Seen.seen) c.args.jobs.now c.as_slice.result.now
    c.index-jobs-place.result c.in-Some.next c.in-Some.ensures.found

pub returns-then-not-is_new-clause-ring : goal.returns-then-not-is_new-clause-ring
returns-then-not-is_new-clause-ring g c = λ same. on_path_at (waits_as g.J.Seen.seen) c.args.jobs.now c.args.marks.now.items
    c.args.stop (reverse c.args.path.now.items) c.index-jobs-place.result c.in-Some.next c.index.result.now c.requires.goes
    (stop_is (waits_as g.J.Seen.seen) c.args.jobs.now c.args.marks.now.items c.args.stop (reverse c.args.path.now.items)
    c.index-jobs-place.result c.requires.goes c.index-jobs-place.is)
    (subst (λ ms. IsNext (waits_as g.J.Seen.seen) c.args.jobs.now ms c.index-jobs-place.result c.in-Some.next)
    c.as_slice.ensures.value c.in-Some.ensures.found) (ap is_new (sym c.index.ensures) ∙ sym c.is_new.ensures ∙ c.if-not-is_new.true)

pub visit_job-requires : goal.visit_job-requires
visit_job-requires g c =
    let l : c.in-Some.next < length c.args.marks.now.items =
    next_within (waits_as g.J.Seen.seen) c.args.jobs.now c.args.marks.now.items c.index-jobs-place.result
    c.in-Some.next (subst (λ ms. IsNext (waits_as g.J.Seen.seen) c.args.jobs.now ms c.index-jobs-place.result c.in-Some.next)
    c.as_slice.ensures.value c.in-Some.ensures.found) in
    subst (λ i. i < length c.args.marks.now.items) (sym {A = ℕ} c.in_ok-last-in-Some.ensures.place) l

pub returns-in-None-clause-goes : goal.returns-in-None-clause-goes
returns-in-None-clause-goes g c = λ same. freed (waits_as g.J.Seen.seen) c.args.jobs.now c.args.marks.now.items c.args.stop
    (reverse c.args.path.now.items) c.index-jobs-place.result c.requires.goes
    (stop_is (waits_as g.J.Seen.seen) c.args.jobs.now c.args.marks.now.items c.args.stop (reverse c.args.path.now.items)
    c.index-jobs-place.result c.requires.goes c.index-jobs-place.is)
    c.in-None.ensures.none
    (stop_within (waits_as g.J.Seen.seen) c.args.jobs.now c.args.marks.now.items c.args.stop
    (reverse c.args.path.now.items) c.requires.goes)

pub returns-in-None-clause-met : goal.returns-in-None-clause-met
returns-in-None-clause-met g c = λ same. freed_met (waits_as g.J.Seen.seen) c.args.jobs.now c.args.stop
    (reverse c.args.path.now.items) c.index-jobs-place.result
    (stop_is (waits_as g.J.Seen.seen) c.args.jobs.now c.args.marks.now.items c.args.stop (reverse c.args.path.now.items)
    c.index-jobs-place.result c.requires.goes c.index-jobs-place.is)
    c.in-None.ensures.none

pub returns-in_ok-visit_job-in-Some-clause-goes : goal.returns-in_ok-visit_job-in-Some-clause-goes
returns-in_ok-visit_job-in-Some-clause-goes g c = λ same.
    let now : Stop = record { place = c.args.stop.place; left = c.next_of.new.left } in
    let last : Stop = c.in_ok-last-in-Some.last in
    let l = longer c.args.path.now.items c.push.new.self.items c.visit_job.new.path.items now last
    c.in_ok-push-in-Some.ensures.items c.in_ok-visit_job-in-Some.ensures.path in
    let P : List Mark → List Stop → Type 0 = λ ms path. Searching (waits_as g.J.Seen.seen) c.args.jobs.now ms path in
    let n = subst (λ ms. IsNext (waits_as g.J.Seen.seen) c.args.jobs.now ms c.index-jobs-place.result c.in-Some.next)
    c.as_slice.ensures.value c.in-Some.ensures.found in
    let s = followed (waits_as g.J.Seen.seen) c.args.jobs.now c.args.marks.now.items c.args.stop now last
    (reverse c.args.path.now.items) c.index-jobs-place.result c.in-Some.next c.requires.goes
    (stop_is (waits_as g.J.Seen.seen) c.args.jobs.now c.args.marks.now.items c.args.stop (reverse c.args.path.now.items)
    c.index-jobs-place.result c.requires.goes c.index-jobs-place.is) n
    (next_within (waits_as g.J.Seen.seen) c.args.jobs.now c.args.marks.now.items c.index-jobs-place.result c.in-Some.next n)
    refl c.in-Some.ensures.left c.in_ok-last-in-Some.ensures.stop c.in_ok-last-in-Some.ensures.place in
    let marks : c.visit_job.new.marks.items ≡ set c.args.marks.now.items c.in-Some.next OnPath =
    c.in_ok-visit_job-in-Some.ensures.marks
    ∙ ap (λ (i : ℕ). set c.args.marks.now.items i OnPath) c.in_ok-last-in-Some.ensures.place in
    subst (λ ms. P ms (reverse c.visit_job.new.path.items)) (sym {A = List Mark} marks)
    (subst (P (set c.args.marks.now.items c.in-Some.next OnPath)) (sym {A = List Stop} l.0) s)

pub returns-in_ok-visit_job-in-Some-clause-met : goal.returns-in_ok-visit_job-in-Some-clause-met
returns-in_ok-visit_job-in-Some-clause-met g c = λ same i m.
    let now : Stop = record { place = c.args.stop.place; left = c.next_of.new.left } in
    let last : Stop = c.in_ok-last-in-Some.last in
    let l = longer c.args.path.now.items c.push.new.self.items c.visit_job.new.path.items now last
    c.in_ok-push-in-Some.ensures.items c.in_ok-visit_job-in-Some.ensures.path in
    subst (λ path. IsMet (waits_as g.J.Seen.seen) c.args.jobs.now path i) (sym {A = List Stop} l.0)
    (followed_met (waits_as g.J.Seen.seen) c.args.jobs.now c.args.stop now last (reverse c.args.path.now.items) refl i m)

pub returns-in_ok-visit_job-in-Some-clause-less : goal.returns-in_ok-visit_job-in-Some-clause-less
returns-in_ok-visit_job-in-Some-clause-less g c = λ same.
    let now : Stop = record { place = c.args.stop.place; left = c.next_of.new.left } in
    let l = longer c.args.path.now.items c.push.new.self.items c.visit_job.new.path.items now c.in_ok-last-in-Some.last
    c.in_ok-push-in-Some.ensures.items c.in_ok-visit_job-in-Some.ensures.path in
    let w = less_by_new c.args.marks.now.items c.in-Some.next (length c.args.path.now.items)
    (new_at (waits_as g.J.Seen.seen) c.args.jobs.now c.args.marks.now.items c.index-jobs-place.result c.in-Some.next
    c.index.result.now (subst (λ ms. IsNext (waits_as g.J.Seen.seen) c.args.jobs.now ms c.index-jobs-place.result c.in-Some.next)
    c.as_slice.ensures.value c.in-Some.ensures.found) (ap is_new (sym c.index.ensures) ∙ sym c.is_new.ensures ∙ c.if-not-is_new.false)) in
    let m : sum_by weight c.visit_job.new.marks.items ≡ sum_by weight (set c.args.marks.now.items c.in-Some.next OnPath) =
    ap (sum_by weight) c.in_ok-visit_job-in-Some.ensures.marks
    ∙ ap (λ (i : ℕ). sum_by weight (set c.args.marks.now.items i OnPath)) c.in_ok-last-in-Some.ensures.place in
    omega (arith, w, m, l.1)
