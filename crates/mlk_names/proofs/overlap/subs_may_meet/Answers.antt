use Rattle.mlk_names.proofs.OverlapLemmas.{subs_meet_parts}
use Rattle.mlk_names.proofs.overlap.subs_may_meet.Goals as goal

pub loop-x-preserved : goal.loop-x-preserved
loop-x-preserved c =
    let w = c.in-Some-Some in
    let parts = subs_meet_parts c.args.far c.args.wide w.x.now w.y.now c.loop-x.firsts.now c.loop-x.seconds.now w.xs.now w.ys.now w.ensures.cases.0 w.ensures'.cases.0
    (c.syms_may_meet.ensures.0 c.if-not-syms_may_meet.false) in
    (λ m. c.loop-x.invariant.0 (parts.0 m), λ m. parts.1 (c.loop-x.invariant.1 m))
