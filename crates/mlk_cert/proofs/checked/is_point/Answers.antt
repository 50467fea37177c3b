use Rattle.std.proofs.Common.{◌∙◌, ◌++◌}
use Rattle.mlk_cert_lexemes.specs.Lists.{flat}
use Rattle.mlk_cert_parts.specs.Texts.{point_text}
use Rattle.std.proofs.Common.{ap}
use Rattle.mlk_cert.proofs.Equal.{point-equal}
use Rattle.mlk_cert.proofs.ReadAgain.{point-kept, point-refused}
use Rattle.mlk_cert.proofs.checked.is_point.Goals as goal

pub are_same_lists-requires : goal.are_same_lists-requires
are_same_lists-requires c = point-equal

pub returns-in-Ok : goal.returns-in-Ok
returns-in-Ok c =
    let text = c.as_bytes.ensures ∙ c.in_ok-push_flat.ensures ∙ ap (λ z. z ++ flat point_text c.from_ref.result.now) c.new-text.ensures ∙ ap (flat point_text) c.from_ref.ensures.value in
    point-kept c.args.made.now c.in-Ok.found c.as_bytes.result.now c.in-Ok.field-0-1.now c.are_same_lists.result text c.in-Ok.ensures
    (rw (c.as_slice.ensures, c.from_ref-in-Ok.ensures.value) at c.are_same_lists.ensures)

pub returns : goal.returns
returns c =
    let text = c.as_bytes.ensures ∙ c.in_ok-push_flat.ensures ∙ ap (λ z. z ++ flat point_text c.from_ref.result.now) c.new-text.ensures ∙ ap (flat point_text) c.from_ref.ensures.value in
    point-refused c.args.made.now c.as_bytes.result.now text (rw c.in-Err-Refused.field-0-is at c.in-Err-Refused.ensures)
