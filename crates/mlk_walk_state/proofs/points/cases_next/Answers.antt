use Rattle.std.proofs.Common.{◌≡◌, ◌∙◌, sym, ap, subst, true}
use Rattle.mlk_cert_parts.specs.Limits.{points_below}
use Rattle.mlk_cert_lexemes.specs.Lists.{ascends}
use Rattle.mlk_walk_state.specs.Scope.{listed_at}
use Rattle.mlk_walk_state.proofs.PointOrder.{none_further}
use Rattle.mlk_walk_state.proofs.points.cases_next.Goals as goal

pub returns-then-not-is_before : goal.returns-then-not-is_before
returns-then-not-is_before c =
    let p = c.in-Some.point.now in
    let ps = c.in-Some.others.now in
    let order = subst (λ z. ascends points_below z ≡ true) c.in-Some.ensures.cases.0 c.loop-point.invariant.0 in
    sym (c.loop-point.invariant.1 ∙ ap (λ z. listed_at z c.args.line c.args.round) c.in-Some.ensures.cases.0
    ∙ none_further c.args.line c.args.round p ps order (sym c.is_at.ensures ∙ c.if-is_at.false) (sym c.is_before.ensures ∙ c.if-not-is_before.true))
