use Rattle.mlk_walk_laws.proofs.Rounds.{each_alone}
use Rattle.mlk_walk_laws.proofs.law.each_alone.Goals as goal

pub returns : goal.returns
returns c = each_alone
