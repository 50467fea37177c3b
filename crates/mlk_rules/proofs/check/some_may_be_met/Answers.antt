use Rattle.std.proofs.Common.{arith}
use Rattle.mlk_rules.specs.declared.pattern.Pattern.{Pattern}
use Rattle.mlk_rules.specs.Patterns.{MayMeet}
use Rattle.mlk_rules.proofs.CheckLemmas.{all_more, all_contained}
use Rattle.mlk_rules.proofs.check.some_may_be_met.Goals as goal

pub loop-pattern-preserved : goal.loop-pattern-preserved
loop-pattern-preserved c =
    let P : Pattern → Type 0 = λ p. MayMeet p c.args.reference.now → ⊥ in
    all_more P c.args.patterns.now c.loop-pattern.pattern-index c.pattern-item.result c.loop-pattern-test.true c.pattern-item.is c.loop-pattern.invariant (λ m. let is = c.meets.ensures.1 m in absurd (cc (is, c.if-meets.false)))

pub returns : goal.returns
returns c =
    let P : Pattern → Type 0 = λ p. MayMeet p c.args.reference.now → ⊥ in
    (λ is. absurd (cc), λ m. absurd (all_contained P c.args.patterns.now c.loop-pattern.pattern-index m.0 (omega arith) c.loop-pattern.invariant m.1 m.2))
