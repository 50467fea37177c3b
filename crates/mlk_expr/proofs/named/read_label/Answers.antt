use Rattle.mlk_text.specs.Lexemes.{label_at}
use Rattle.std.proofs.Common.{◌≡◌, Some, subst}
use Rattle.mlk_expr.specs.Grammar.{IsLabelText}
use Rattle.mlk_expr.specs.Theorem.{LabelEnds}
use Rattle.mlk_text.specs.Failures.{FailsOn}
use Rattle.mlk_expr.proofs.Labels.{Labels, labels-exact, same-label}
use Rattle.mlk_expr.proofs.Places.{rest-within, stands, only, refuses}
use Rattle.mlk_expr.proofs.named.read_label.Goals as goal

pub overflow_sub-result : goal.overflow_sub-result
overflow_sub-result c =
    let h = subst (λ l. label_at l ≡ Some (c.in-Ok.label, c.in-Ok.rest.now)) c.split_at.ensures.back c.in-Ok.ensures in
    rest-within (λ end. label_at) Labels IsLabelText LabelEnds labels-exact same-label c.args.line.now c.args.at c.in-Ok.label c.in-Ok.rest.now h

pub returns-in-Ok-clause-found : goal.returns-in-Ok-clause-found
returns-in-Ok-clause-found c =
    let h = subst (λ l. label_at l ≡ Some (c.in-Ok.label, c.in-Ok.rest.now)) c.split_at.ensures.back c.in-Ok.ensures in
    stands (λ end. label_at) Labels IsLabelText LabelEnds labels-exact same-label c.args.line.now c.args.at c.requires c.in-Ok.label c.in-Ok.rest.now h

pub returns-in-Ok-clause-only : goal.returns-in-Ok-clause-only
returns-in-Ok-clause-only c =
    let h = subst (λ l. label_at l ≡ Some (c.in-Ok.label, c.in-Ok.rest.now)) c.split_at.ensures.back c.in-Ok.ensures in
    only (λ end. label_at) Labels IsLabelText LabelEnds labels-exact same-label c.args.line.now c.args.at c.requires c.in-Ok.label c.in-Ok.rest.now h

pub returns-in-Err-clause-refused : goal.returns-in-Err-clause-refused
returns-in-Err-clause-refused c =
    let h = subst (λ l. FailsOn c.in-Err.refusal (label_at l)) c.split_at.ensures.back c.in-Err.ensures in
    refuses (λ end. label_at) Labels IsLabelText LabelEnds labels-exact same-label c.args.line.now c.args.at c.requires c.in-Err.refusal c.locate.result h c.locate.ensures.alike
