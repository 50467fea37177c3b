use Rattle.mlk_rules.proofs.RankLemmas.{one_rank}
use Rattle.mlk_rules.proofs.law.one_rank.Goals as goal

pub returns : goal.returns
returns c = one_rank
