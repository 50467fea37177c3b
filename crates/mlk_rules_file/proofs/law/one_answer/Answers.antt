use Rattle.mlk_rules_file.proofs.RuleOne.{one_answer}
use Rattle.mlk_rules_file.proofs.law.one_answer.Goals as goal

pub returns : goal.returns
returns c = one_answer
