use Rattle.std.proofs.Common.{◌∙◌, ap, ap₂}
use Rattle.std.proofs.lemmas.Result.{IfOk-weaker}
use Rattle.clap.specs.Simple.{app_of_fields}
use Rattle.clap.specs.Words.{with_rule}
use Rattle.mlk_cli_grammar.specs.Grammar.{with_replaying, with_routines}
use Rattle.mlk_cli_grammar.proofs.commands.replay_command.Goals as goal

pub returns : goal.returns
returns c =
    let start = ap app_of_fields c.long_about.ensures ∙ ap app_of_fields c.about.ensures ∙ c.new.ensures.app in
    let one = c.in_ok-arg.ensures.shape c.path.ensures.local ∙ ap₂ with_rule start c.path.ensures.rule in
    let two = c.in_ok-command.ensures.shape c.path-2.ensures.local ∙ ap₂ with_rule one c.path-2.ensures.rule in
    let three = c.in_ok-command-2.ensures ∙ ap (with_routines c.args.is_listed) two in
    IfOk-weaker c.with_replaying.result _ _ (λ made h. h ∙ ap with_replaying three) c.with_replaying.ensures
