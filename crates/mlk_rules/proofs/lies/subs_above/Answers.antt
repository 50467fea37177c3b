use Rattle.mlk_rules.proofs.FrontLemmas.{above_cons, above_suits}
use Rattle.mlk_rules.proofs.lies.subs_above.Goals as goal

pub returns-then-not-suits : goal.returns-then-not-suits
returns-then-not-suits c =
    let v = c.in-Some in
    let w = c.in-Some-split_first in
    let whole = rw (v.ensures.cases.0, w.ensures.cases.0) at c.loop-symbol.invariant in (
      λ is. absurd (cc),
      λ h.
          let is = c.suits.ensures.1 (above_suits w.element.now w.other_elements.now v.symbol.now v.other_symbols.now (whole.1 h)) in
          absurd (cc (is, c.if-not-suits.true)),
    )

pub loop-symbol-preserved : goal.loop-symbol-preserved
loop-symbol-preserved c =
    let v = c.in-Some in
    let w = c.in-Some-split_first in
    let whole = rw (v.ensures.cases.0, w.ensures.cases.0) at c.loop-symbol.invariant in
    let parts = above_cons w.element.now w.other_elements.now v.symbol.now v.other_symbols.now (c.suits.ensures.0 c.if-not-suits.false) in
    (λ k. whole.0 (parts.0 k), λ h. parts.1 (whole.1 h))
