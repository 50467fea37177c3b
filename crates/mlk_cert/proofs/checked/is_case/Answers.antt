use Rattle.std.proofs.Common.{◌∙◌}
use Rattle.mlk_cert.proofs.ReadAgain.{case-kept, case-refused}
use Rattle.mlk_cert_parts.proofs.EqualCases.{case-equal}
use Rattle.mlk_cert.proofs.checked.is_case.Goals as goal

pub are_same_lists-equal-requires : goal.are_same_lists-equal-requires
are_same_lists-equal-requires c = case-equal

pub returns-in-Ok : goal.returns-in-Ok
returns-in-Ok c =
    case-kept c.args.made.now c.in-Ok.found c.as_bytes.result.now c.in-Ok.field-0-2.now c.are_both.result c.is_yes.result c.are_same_lists-equal.result
    (c.as_bytes.ensures ∙ c.in_ok-text.ensures) c.in-Ok.ensures.read (c.is_yes.ensures ∙ c.in-Ok.ensures.fit) c.are_both.ensures
    (rw (c.from_ref.ensures.value, c.from_ref-in-Ok.ensures.value) at c.are_same_lists-equal.ensures)

pub returns : goal.returns
returns c = case-refused c.args.made.now c.as_bytes.result.now (c.as_bytes.ensures ∙ c.in_ok-text.ensures) (rw c.in-Err-Refused.field-0-is at c.in-Err-Refused.ensures.read)
