use Rattle.std.proofs.Common.{◌∙◌, refl, ap₂}
use Rattle.std.proofs.lemmas.Result.{IfOk-weaker}
use Rattle.clap.specs.Words.{with_rule}
use Rattle.mlk_cli_grammar.proofs.commands.with_style.Goals as goal

pub returns : goal.returns
returns c =
    let one = c.in_ok-arg.ensures.shape c.output_option.ensures.local ∙ ap₂ with_rule refl c.output_option.ensures.rule in
    let two = c.in_ok-arg-2.ensures.shape c.flag.ensures.local ∙ ap₂ with_rule one c.flag.ensures.rule in
    let three = c.in_ok-arg-3.ensures.shape c.flag-2.ensures.local ∙ ap₂ with_rule two c.flag-2.ensures.rule in
    let four = c.in_ok-arg-4.ensures.shape c.flag-3.ensures.local ∙ ap₂ with_rule three c.flag-3.ensures.rule in
    IfOk-weaker c.arg-5.result _ _ (λ made h. h.shape c.flag-4.ensures.local ∙ ap₂ with_rule four c.flag-4.ensures.rule) c.arg-5.ensures
