use Rattle.std.proofs.Common.{◌∙◌, refl, subst, sym}
use Rattle.mlk_suggest_text.specs.RuleTexts.{IsRuleText}
use Rattle.mlk_app.proofs.suggestion.suggestion_answer.Goals as goal

pub returns-in-Ok-rules_for : goal.returns-in-Ok-rules_for
returns-in-Ok-rules_for c = (subst IsRuleText (sym (c.of.ensures ∙ c.into_bytes.ensures)) c.in-Ok-rules_for.ensures, refl)
