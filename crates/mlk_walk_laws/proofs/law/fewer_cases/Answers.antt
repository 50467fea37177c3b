use Rattle.mlk_walk_laws.proofs.Rounds.{fewer_cases}
use Rattle.mlk_walk_laws.proofs.law.fewer_cases.Goals as goal

pub returns : goal.returns
returns c = fewer_cases
