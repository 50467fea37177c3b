use Rattle.mlk_rules.proofs.Apart.{covered_apart}
use Rattle.mlk_rules.proofs.law.covered_apart.Goals as goal

pub returns : goal.returns
returns c = covered_apart
