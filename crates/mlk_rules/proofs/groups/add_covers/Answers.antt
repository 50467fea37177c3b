use Rattle.std.proofs.Common.{arith, subst}
use Rattle.mlk_rules.specs.declared.cover.Cover.{Cover}
use Rattle.mlk_rules.specs.Groups.{HasGroup}
use Rattle.mlk_rules.proofs.CheckLemmas.{all_more, all_contained}
use Rattle.mlk_rules.proofs.groups.add_covers.Goals as goal

pub loop-cover-preserved : goal.loop-cover-preserved
loop-cover-preserved c =
    let gains = c.in_ok-add.ensures in
    let old = c.loop-cover.invariant in
    let P : Cover → Type 0 = λ c'. HasGroup c.add.new.self c'.pattern.global in
    record {
      are = λ h. gains.are (old.are h);
      has = all_more P c.args.covers.now c.loop-cover.cover-index c.cover-item.result c.loop-cover-test.true c.cover-item.is (λ k d lt. gains.keeps _ (old.has k d lt)) gains.has;
      keeps = λ other h. gains.keeps other (old.keeps other h);
    }

pub returns : goal.returns
returns c =
    let now = c.loop-cover.invariant in
    let P : Cover → Type 0 = λ c'. HasGroup c.loop-cover.groups c'.pattern.global in
    record {
      are = now.are;
      has = λ name w. subst (HasGroup c.loop-cover.groups) w.2 (all_contained P c.args.covers.now c.loop-cover.cover-index w.0 (omega arith) now.has w.1);
      keeps = now.keeps;
    }
