use Rattle.std.proofs.Common.{arith, refl, sym}
use Rattle.mlk_rules.specs.declared.cover.Cover.{Cover}
use Rattle.mlk_rules.specs.Patterns.{MayMeet}
use Rattle.mlk_rules.specs.Coverage.{Satisfies}
use Rattle.mlk_rules.proofs.CheckLemmas.{all_more, all_contained, not_both}
use Rattle.mlk_rules.proofs.check.each_is_satisfied.Goals as goal
use Rattle.mlk_rules.proofs.check.each_is_satisfied.Goals.{else-meets-via-then-meets+else-not-is_satisfied, else-meets-via-else-meets}

pub returns-then-not-is_satisfied : goal.returns-then-not-is_satisfied
returns-then-not-is_satisfied c =
    let x = c.cover-item.result in (
      λ is. absurd (cc),
      λ f.
          let h = f x (c.loop-cover.cover-index, c.loop-cover-test.true, sym c.cover-item.is) (c.meets.ensures.0 c.if-meets.true) in
          absurd (not_both c.is_satisfied.result c.if-not-is_satisfied.true (c.is_satisfied.ensures.1 h)),
    )

pub loop-cover-preserved : goal.loop-cover-preserved
loop-cover-preserved c =
    let P : Cover → Type 0 = λ x. MayMeet x.pattern c.args.reference.now → Satisfies c.args.held.now c.args.reference.now x in
    let here : P c.cover-item.result =
    elim c.else-meets.branch [
      | else-meets-via-then-meets+else-not-is_satisfied w ↦
          λ m. w.is_satisfied.ensures.0 w.if-not-is_satisfied.false
      | else-meets-via-else-meets w ↦
          λ m. let is = c.meets.ensures.1 m in absurd (cc (is, w.if-meets.false))
    ] in
    all_more P c.args.covers.now c.loop-cover.cover-index c.cover-item.result c.loop-cover-test.true c.cover-item.is c.loop-cover.invariant here

pub returns : goal.returns
returns c =
    let P : Cover → Type 0 = λ x. MayMeet x.pattern c.args.reference.now → Satisfies c.args.held.now c.args.reference.now x in
    (λ is x in' m. all_contained P c.args.covers.now c.loop-cover.cover-index x (omega arith) c.loop-cover.invariant in' m, λ f. refl)
