-- Which texts are rule files. This project's own choice.
use Rattle.std.specs.Prelude.{ℕ, List}
use Rattle.mlk_rules.specs.declared.rules.RuleLists.{RuleLists}
use Rattle.mlk_rules_file.specs.RuleSections.{SaysRules}

-- The bytes are a rule file: they spell some rules, within all limits.
abbrev pub IsRuleText : List ℕ → Type 0
IsRuleText bytes = (rules : RuleLists) × SaysRules bytes rules
