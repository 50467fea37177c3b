use Rattle.std.proofs.Common.{ℕ, List, subst}
use Rattle.mlk_rules_file.specs.RuleSections.{SaysRules}
use Rattle.mlk_suggest_text.proofs.rule_text.checked_text.Goals as goal

pub returns-in-Ok : goal.returns-in-Ok
returns-in-Ok c = (c.in-Ok._rules, subst (λ (b : List ℕ). SaysRules b c.in-Ok._rules) c.as_slice.ensures.value c.in-Ok.ensures.ok)
