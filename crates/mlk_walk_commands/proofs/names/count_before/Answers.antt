use Rattle.mlk_walk_commands.proofs.NameCounts.{before_turn}
use Rattle.mlk_walk_commands.proofs.names.count_before.Goals as goal

pub loop-name-preserved : goal.loop-name-preserved
loop-name-preserved c = before_turn c.args.names.now c.loop-name.name-index c.name-item.result c.count_of.result
    c.loop-name.before c.saturating_sub-before.result _ c.loop-name-test.true c.name-item.is c.count_of.ensures
    c.saturating_sub-before.ensures c.loop-name.invariant
