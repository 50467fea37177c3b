use Rattle.mlk_rules.proofs.rank.rank_of.Goals as goal

pub returns : goal.returns
returns c = rw c.families.ensures.value at c.rank_among.ensures
