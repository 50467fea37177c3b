use Rattle.std.proofs.Common.{◌≡◌, Some, subst}
use Rattle.mlk_text.specs.Lexemes.{name_at}
use Rattle.mlk_expr.specs.Grammar.{IsNameText}
use Rattle.mlk_expr.specs.Theorem.{LabelEnds}
use Rattle.mlk_text.specs.Failures.{FailsOn}
use Rattle.mlk_expr.proofs.Labels.{Names, names-exact, same-name}
use Rattle.mlk_expr.proofs.Places.{rest-within, stands, only, refuses}
use Rattle.mlk_expr.proofs.named.read_name.Goals as goal

pub overflow_sub-result : goal.overflow_sub-result
overflow_sub-result c =
    let h = subst (λ l. name_at l ≡ Some (c.in-Ok.name, c.in-Ok.rest.now)) c.split_at.ensures.back c.in-Ok.ensures in
    rest-within (λ end. name_at) Names IsNameText LabelEnds names-exact same-name c.args.line.now c.args.at c.in-Ok.name c.in-Ok.rest.now h

pub returns-in-Ok-clause-found : goal.returns-in-Ok-clause-found
returns-in-Ok-clause-found c =
    let h = subst (λ l. name_at l ≡ Some (c.in-Ok.name, c.in-Ok.rest.now)) c.split_at.ensures.back c.in-Ok.ensures in
    stands (λ end. name_at) Names IsNameText LabelEnds names-exact same-name c.args.line.now c.args.at c.requires c.in-Ok.name c.in-Ok.rest.now h

pub returns-in-Ok-clause-only : goal.returns-in-Ok-clause-only
returns-in-Ok-clause-only c =
    let h = subst (λ l. name_at l ≡ Some (c.in-Ok.name, c.in-Ok.rest.now)) c.split_at.ensures.back c.in-Ok.ensures in
    only (λ end. name_at) Names IsNameText LabelEnds names-exact same-name c.args.line.now c.args.at c.requires c.in-Ok.name c.in-Ok.rest.now h

pub returns-in-Err-clause-refused : goal.returns-in-Err-clause-refused
returns-in-Err-clause-refused c =
    let h = subst (λ l. FailsOn c.in-Err.refusal (name_at l)) c.split_at.ensures.back c.in-Err.ensures in
    refuses (λ end. name_at) Names IsNameText LabelEnds names-exact same-name c.args.line.now c.args.at c.requires c.in-Err.refusal c.locate.result h c.locate.ensures.alike
