use Rattle.std.proofs.Common.{arith, refl, subst}
use Rattle.mlk_names.specs.declared.reference.Reference.{Reference}
use Rattle.mlk_names.specs.References.{MayOverlap}
use Rattle.mlk_rules.proofs.CheckLemmas.{all_more}
use Rattle.mlk_stale.proofs.judge.none_reaches.Goals as goal

pub returns-then-may_overlap : goal.returns-then-may_overlap
returns-then-may_overlap c =
    let P : Reference → Type 0 = λ r. MayOverlap r c.args.written.now in
    let reached : P c.read-item.result = c.may_overlap.ensures.0 c.if-may_overlap.true in
    (λ is. absurd (cc), λ all. absurd (all c.loop-read.read-index c.read-item.result c.loop-read-test.true (subst P c.read-item.is reached)))

pub loop-read-preserved : goal.loop-read-preserved
loop-read-preserved c =
    let P : Reference → Type 0 = λ r. MayOverlap r c.args.written.now → ⊥ in
    all_more P c.args.reads.now c.loop-read.read-index c.read-item.result c.loop-read-test.true c.read-item.is c.loop-read.invariant (λ m. let is = c.may_overlap.ensures.1 m in absurd (cc (is, c.if-may_overlap.false)))

pub returns : goal.returns
returns c = (λ is k d below. c.loop-read.invariant k d (omega arith), λ all. refl)
