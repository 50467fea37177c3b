use Rattle.mlk_rules.proofs.FrontLemmas.{lie_cons}
use Rattle.mlk_rules.proofs.lies.subs_lie.Goals as goal

pub loop-element-preserved : goal.loop-element-preserved
loop-element-preserved c =
    let a = c.args in
    let v = c.in-Some in
    let w = c.in-Some-split_first in
    let whole = rw (v.ensures.cases.0, w.ensures.cases.0) at c.loop-element.invariant in
    let parts = lie_cons v.element.now v.other_elements.now w.symbol.now w.other_symbols.now a.wide a.far (c.suits.ensures.0 c.if-not-suits.false) in
    (λ k. whole.0 (parts.0 k), λ h. parts.1 (whole.1 h))
