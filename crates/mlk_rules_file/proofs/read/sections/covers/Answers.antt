use Rattle.mlk_rules_file.specs.RuleSections.{cover_of, each}
use Rattle.toml.specs.View.{items_view}
use Rattle.mlk_rules_file.proofs.RuleEach.{each_goes}
use Rattle.mlk_rules_file.proofs.read.sections.covers.Goals as goal

pub loop-i-preserved : goal.loop-i-preserved
loop-i-preserved c =
    let values = c.args.values.now in
    rw c.in_ok-push.ensures.items (each_goes cover_of c.loop-i.found.items c.loop-i.i values c.index-values-i.result c.in_ok-cover.field-0 (each cover_of 1 (items_view values)) c.loop-i-test.true c.index-values-i.is c.in_ok-cover.ensures c.loop-i.invariant)
