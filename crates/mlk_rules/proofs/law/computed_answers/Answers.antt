use Rattle.mlk_rules.proofs.Computing.{computed_answers}
use Rattle.mlk_rules.proofs.law.computed_answers.Goals as goal

pub returns : goal.returns
returns c = computed_answers
