use Rattle.std.proofs.Common.{◌≡◌, ◌∙◌, ◌++◌, ◌∷◌, [], List, arith, reverse, sym, ap, subst}
use Rattle.std.proofs.lemmas.List.{reverse-append}
use Rattle.mlk_machine_locks.specs.declared.ring.Stop.{Stop}
use Rattle.mlk_machine_locks.specs.Waiting.{waits_as}
use Rattle.mlk_machine_locks.specs.Searches.{is_new, IsMet}
use Rattle.mlk_machine_locks.proofs.SearchLemmas.{begins_so, met_before}
use Rattle.mlk_machine_locks.proofs.ring.search.Goals as goal

pub returns-then-not-is_new-clause-free : goal.returns-then-not-is_new-clause-free
returns-then-not-is_new-clause-free g c = λ same. met_before (waits_as g.J.Seen.seen) c.args.jobs.now c.args.marks.now.items
    c.args.start c.index.result.now c.requires.begins c.requires.within
    (ap is_new (sym c.index.ensures) ∙ sym c.is_new.ensures ∙ c.if-not-is_new.true)

pub visit_job-requires : goal.visit_job-requires
visit_job-requires g c = omega (arith, c.requires.within, c.requires.begins.all, c.in_ok-first.ensures.place)

pub loop-stop-init : goal.loop-stop-init
loop-stop-init g c =
    let first : Stop = c.in_ok-first.first in
    let e : c.visit_job.new.path.items ≡ first ∷ [] =
    ◌∙◌ {A = List Stop} c.in_ok-visit_job.ensures.path (ap (λ (l : List Stop). l ++ first ∷ []) c.new-path.ensures.items) in
    begins_so (waits_as g.J.Seen.seen) c.args.jobs.now c.args.marks.now.items first c.args.start c.requires.begins
    c.in_ok-first.ensures.stop c.in_ok-first.ensures.place c.requires.within
    c.visit_job.new.marks.items c.visit_job.new.path.items c.in_ok-visit_job.ensures.marks e

pub loop-stop-preserved : goal.loop-stop-preserved
loop-stop-preserved g c =
    let e : reverse c.loop-stop.path.items ≡ c.in-Some.stop ∷ reverse c.pop.new.self.items =
    ap reverse c.in-Some.ensures.items ∙ reverse-append c.pop.new.self.items (c.in-Some.stop ∷ []) in (
      c.in_ok-take_step.ensures.goes c.if-branch.false,
      c.in_ok-take_step.ensures.met c.if-branch.false c.args.start
          (subst (λ path. IsMet (waits_as g.J.Seen.seen) c.args.jobs.now path c.args.start) e c.loop-stop.invariant.1),
    )
