use Rattle.std.proofs.Common.{◌≡◌, Some, None, subst, refl, arith}
use Rattle.mlk_routine_arguments.proofs.Bytes.{byte_before}
use Rattle.mlk_text.specs.Failures.{FailsOn}
use Rattle.mlk_text.specs.Lexemes.{inside}
use Rattle.mlk_routine_arguments.specs.Ends.{IsPrompt, PromptEnds}
use Rattle.mlk_routine_arguments.proofs.Outcomes.{denies}
use Rattle.mlk_routine_arguments.proofs.Prompts.{no_longer, prompt_found, prompt_nowhere}
use Rattle.mlk_routine_arguments.proofs.devices.prompt.Goals as goal

pub overflow_sub-result : goal.overflow_sub-result
overflow_sub-result c =
    no_longer c.args.line.now c.args.at c.requires c.in-Ok.value c.in-Ok.rest.now
    (subst (λ l. inside l ≡ Some (c.in-Ok.value, c.in-Ok.rest.now)) c.split_at.ensures.back c.in-Ok.ensures)

pub returns-in-Ok : goal.returns-in-Ok
returns-in-Ok c =
    prompt_found c.args.line.now c.args.at c.requires c.in-Ok.value c.in-Ok.rest.now
    (subst (λ l. inside l ≡ Some (c.in-Ok.value, c.in-Ok.rest.now)) c.split_at.ensures.back c.in-Ok.ensures)

pub returns-in-Err-Refused : goal.returns-in-Err-Refused
returns-in-Err-Refused c =
    let none : inside c.split_at.result.1.now ≡ None = subst (λ e. FailsOn e (inside c.split_at.result.1.now)) c.in-Err-Refused.field-0-is c.in-Err-Refused.ensures in
    let size = byte_before c.args.line.now c.args.at 34 c.requires in
    let plain = c.text_bytes-plain.ensures.within in
    let back = c.split_at.ensures.back_len in
    denies IsPrompt PromptEnds c.args.line.now c.args.at c.refusal_at.result (c.refusal_at.ensures.fault c.args.line.now (omega (arith, size, plain, back)) refl refl)
    (prompt_nowhere c.args.line.now c.args.at c.requires (subst (λ l. inside l ≡ None) c.split_at.ensures.back none))
