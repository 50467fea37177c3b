use Rattle.std.proofs.Common.{◌∙◌, refl, ap, ap₂}
use Rattle.std.proofs.lemmas.Result.{IfOk-weaker}
use Rattle.clap.specs.Words.{with_rule}
use Rattle.mlk_cli_grammar.specs.Grammar.{with_baseline, with_style}
use Rattle.mlk_cli_grammar.proofs.commands.with_report.Goals as goal

pub returns : goal.returns
returns c =
    let one = c.in_ok-command.ensures.shape c.workers.ensures.local ∙ ap₂ with_rule refl c.workers.ensures.rule in
    let two = c.in_ok-command-2.ensures ∙ ap with_style one in
    IfOk-weaker c.with_baseline.result _ _ (λ made h. h ∙ ap with_baseline two) c.with_baseline.ensures
