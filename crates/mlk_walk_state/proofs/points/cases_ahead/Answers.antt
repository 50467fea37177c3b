use Rattle.std.proofs.Common.{◌≡◌, ◌∙◌, ◌∷◌, ◌++◌, sym, ap, subst, true}
use Rattle.mlk_cert_parts.specs.Limits.{points_below}
use Rattle.mlk_cert_lexemes.specs.Lists.{ascends}
use Rattle.mlk_walk_state.specs.Scope.{listed_at}
use Rattle.mlk_walk_state.proofs.PointOrder.{front_passed, end_ascends}
use Rattle.mlk_walk_state.proofs.PointEnds.{before_end, end_parts}
use Rattle.mlk_walk_state.proofs.points.cases_ahead.Goals as goal

pub cases_next-requires : goal.cases_next-requires
cases_next-requires c =
    let points = c.args.points.now in
    let ahead = c.args.ahead.now in
    end_ascends (before_end points ahead) ahead (subst (λ z. ascends points_below z ≡ true) (end_parts points ahead c.requires.end) c.requires.order)

pub returns-then-is_upto : goal.returns-then-is_upto
returns-then-is_upto c =
    let n = c.args.line in
    let r = c.args.round in
    let points = c.args.points.now in
    let ahead = c.args.ahead.now in
    let front = before_end points ahead in
    let p = c.in-Some.point.now in
    let ps = c.in-Some.field-0-1.now in
    let begins : ahead ≡ p ∷ ps = c.in-Some.ensures.cases.0 in
    let whole : points ≡ front ++ p ∷ ps = end_parts points ahead c.requires.end ∙ ap (λ z. front ++ z) begins in
    c.cases_next.ensures ∙ ap (λ z. listed_at z n r) begins
    ∙ sym (ap (λ z. listed_at z n r) whole
    ∙ front_passed n r front p ps (subst (λ z. ascends points_below z ≡ true) whole c.requires.order) (sym c.is_upto.ensures ∙ c.if-is_upto.true))
