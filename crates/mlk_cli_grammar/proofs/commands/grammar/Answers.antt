use Rattle.std.proofs.Common.{◌∙◌, ap, ap₂}
use Rattle.std.proofs.lemmas.Result.{IfOk-weaker}
use Rattle.clap.specs.Words.{with_subcommand}
use Rattle.mlk_cli_grammar.proofs.commands.grammar.Goals as goal

pub returns : goal.returns
returns c =
    let one = c.in_ok-app.ensures ∙ ap₂ with_subcommand c.without_commands.ensures (ap (λ a. a.top) c.in_ok-check_command.ensures) in
    let two = c.in_ok-app-2.ensures ∙ ap₂ with_subcommand one (ap (λ a. a.top) c.in_ok-make_command.ensures) in
    let three = c.in_ok-app-3.ensures ∙ ap₂ with_subcommand two (ap (λ a. a.top) c.in_ok-verify_command.ensures) in
    let four = c.in_ok-app-4.ensures ∙ ap₂ with_subcommand three (ap (λ a. a.top) c.in_ok-replay_command.ensures) in
    let five = c.in_ok-app-5.ensures ∙ ap₂ with_subcommand four (ap (λ a. a.top) c.in_ok-convert_command.ensures) in
    let six = c.in_ok-app-6.ensures ∙ ap₂ with_subcommand five (ap (λ a. a.top) c.in_ok-survey_command.ensures) in
    let seven = c.in_ok-app-7.ensures ∙ ap₂ with_subcommand six (ap (λ a. a.top) c.in_ok-suggest_command.ensures) in
    let eight = c.in_ok-app-8.ensures ∙ ap₂ with_subcommand seven (ap (λ a. a.top) c.in_ok-stubs_command.ensures) in
    IfOk-weaker c.with_command-9.result _ _ (λ made h. h ∙ ap₂ with_subcommand eight (ap (λ a. a.top) c.in_ok-explain_command.ensures)) c.with_command-9.ensures
