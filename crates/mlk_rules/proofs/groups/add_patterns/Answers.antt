use Rattle.std.proofs.Common.{arith, subst}
use Rattle.mlk_rules.specs.declared.pattern.Pattern.{Pattern}
use Rattle.mlk_rules.specs.Groups.{HasGroup}
use Rattle.mlk_rules.proofs.CheckLemmas.{all_more, all_contained}
use Rattle.mlk_rules.proofs.groups.add_patterns.Goals as goal

pub loop-pattern-preserved : goal.loop-pattern-preserved
loop-pattern-preserved c =
    let gains = c.in_ok-add.ensures in
    let old = c.loop-pattern.invariant in
    let P : Pattern → Type 0 = λ c'. HasGroup c.add.new.self c'.global in
    record {
      are = λ h. gains.are (old.are h);
      has = all_more P c.args.patterns.now c.loop-pattern.pattern-index c.pattern-item.result c.loop-pattern-test.true c.pattern-item.is (λ k d lt. gains.keeps _ (old.has k d lt)) gains.has;
      keeps = λ other h. gains.keeps other (old.keeps other h);
    }

pub returns : goal.returns
returns c =
    let now = c.loop-pattern.invariant in
    let P : Pattern → Type 0 = λ c'. HasGroup c.loop-pattern.groups c'.global in
    record {
      are = now.are;
      has = λ name w. subst (HasGroup c.loop-pattern.groups) w.2 (all_contained P c.args.patterns.now c.loop-pattern.pattern-index w.0 (omega arith) now.has w.1);
      keeps = now.keeps;
    }
