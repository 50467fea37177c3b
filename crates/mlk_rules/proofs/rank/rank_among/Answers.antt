use Rattle.mlk_rules.proofs.RankLemmas.{rank_found}
use Rattle.mlk_rules.proofs.rank.rank_among.Goals as goal
use Rattle.std.proofs.Common.{sym}

pub returns-then-is_above : goal.returns-then-is_above
returns-then-is_above c =
    rank_found c.args.families.now c.family-item.result c.args.term.now c.requires (c.loop-family.family-index, c.loop-family-test.true, sym c.family-item.is) (c.is_above.ensures.0 c.if-is_above.true)
