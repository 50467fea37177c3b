use Rattle.mlk_rules.proofs.Marked.{marked_alike}
use Rattle.mlk_rules.proofs.law.marked_alike.Goals as goal

pub returns : goal.returns
returns c = marked_alike
