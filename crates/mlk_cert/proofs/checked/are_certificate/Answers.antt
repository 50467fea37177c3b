use Rattle.std.proofs.Common.{◌++◌, ap, ◌∙◌}
use Rattle.mlk_cert_lexemes.specs.Lists.{flat}
use Rattle.mlk_cert_parts.specs.Texts.{block_text, end_line}
use Rattle.mlk_cert.proofs.Equal.{block-equal}
use Rattle.mlk_cert.proofs.ReadAgain.{blocks-kept, blocks-refused}
use Rattle.mlk_cert.proofs.checked.are_certificate.Goals as goal

pub are_same_lists-requires : goal.are_same_lists-requires
are_same_lists-requires c = block-equal

pub returns-in-Ok : goal.returns-in-Ok
returns-in-Ok c =
    let text = c.as_bytes.ensures ∙ c.in_ok-push.ensures ∙ ap (λ z. z ++ end_line) (c.in_ok-push_flat.ensures ∙ ap (λ z. z ++ flat block_text c.args.made.now) c.new-text.ensures) in
    blocks-kept c.args.made.now c.in-Ok.found.items c.as_bytes.result.now c.are_same_lists.result text c.in-Ok.ensures
    (rw c.as_slice.ensures.value at c.are_same_lists.ensures)

pub returns : goal.returns
returns c =
    let text = c.as_bytes.ensures ∙ c.in_ok-push.ensures ∙ ap (λ z. z ++ end_line) (c.in_ok-push_flat.ensures ∙ ap (λ z. z ++ flat block_text c.args.made.now) c.new-text.ensures) in
    blocks-refused c.args.made.now c.as_bytes.result.now text (rw c.in-Err-Refused.field-0-is at c.in-Err-Refused.ensures)
