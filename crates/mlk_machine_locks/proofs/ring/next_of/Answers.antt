use Rattle.std.proofs.Common.{◌∙◌, arith, sym, subst}
use Rattle.std.proofs.lemmas.Bool.{false≢true}
use Rattle.mlk_machine_locks.specs.Waiting.{waits_as}
use Rattle.mlk_machine_locks.specs.Searches.{Waits}
use Rattle.mlk_machine_locks.proofs.SearchLemmas.{one_less, none_left, none_waits}
use Rattle.mlk_machine_locks.proofs.ring.next_of.Goals as goal

pub returns-then-leads-clause-left : goal.returns-then-leads-clause-left
returns-then-leads-clause-left g c =
    subst (λ l. Waits (waits_as g.J.Seen.seen) c.args.jobs.now c.args.job.now l)
    (c.in-Some.ensures.items ∙ sym c.push_reserved.ensures.items) c.loop-place.invariant

pub loop-place-preserved : goal.loop-place-preserved
loop-place-preserved g c =
    one_less (waits_as g.J.Seen.seen) c.args.jobs.now c.args.job.now c.loop-place.left.items c.pop.new.self.items c.in-Some.place
    c.loop-place.invariant c.in-Some.ensures.items (c.leads.ensures.none c.if-leads.false)

pub returns-clause-left : goal.returns-clause-left
returns-clause-left g c =
    none_waits (waits_as g.J.Seen.seen) c.args.jobs.now c.args.job.now c.loop-place.left.items c.pop.new.self.items
    c.loop-place.invariant (λ l. false≢true (c.in_default.ensures.variant.1 (omega (arith, l, c.loop-place.left.ok))))

pub returns-clause-none : goal.returns-clause-none
returns-clause-none g c =
    none_left (waits_as g.J.Seen.seen) c.args.jobs.now c.args.job.now c.loop-place.left.items c.loop-place.invariant
    (λ l. false≢true (c.in_default.ensures.variant.1 (omega (arith, l, c.loop-place.left.ok))))
