use Rattle.std.proofs.Common.{◌≡◌, ◌∙◌, ap, sym, subst, true}
use Rattle.std.specs.List.{list_all}
use Rattle.mlk_cert_parts.specs.Limits.{points_below}
use Rattle.mlk_cert_lexemes.specs.Lists.{ascends}
use Rattle.mlk_walk_state.specs.Scope.{is_earlier}
use Rattle.mlk_walk_state.proofs.PointOrder.{last_earlier}
use Rattle.mlk_walk_state.proofs.points.are_earlier_in_order.Goals as goal

pub returns-in-Some : goal.returns-in-Some
returns-in-Some c =
    let whole = c.in-Some.ensures.cases.0 in
    let order = subst (λ z. ascends points_below z ≡ true) whole c.requires in
    c.is_earlier.ensures ∙ last_earlier c.args.line c.in-Some.last.now c.in-Some.field-0-1.now order
    ∙ ap (list_all (is_earlier c.args.line)) (sym whole)
