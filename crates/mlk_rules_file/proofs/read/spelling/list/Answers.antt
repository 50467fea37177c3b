use Rattle.mlk_rules_file.proofs.RuleTexts.{items-leave, commas-shorten}
use Rattle.mlk_rules_file.proofs.read.spelling.list.Goals as goal

pub separated_items-requires-clause-leaves : goal.separated_items-requires-clause-leaves
separated_items-requires-clause-leaves c = items-leave

pub separated_items-requires-clause-shortens : goal.separated_items-requires-clause-shortens
separated_items-requires-clause-shortens c = commas-shorten
