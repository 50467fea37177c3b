use Rattle.std.proofs.Common.{◌∙◌, ap, false}
use Rattle.mlk_syntax.specs.ExprTrees.{tree_of}
use Rattle.mlk_syntax.specs.Views.{action_of}
use Rattle.mlk_walk_exprs.specs.Spots.{spot_of}
use Rattle.mlk_walk_exprs.specs.Expressions.{by_condition, value, where_it_may_be}
use Rattle.mlk_walk_lines.specs.Commands.{act, stay}
use Rattle.mlk_walk_lines.specs.Counting.{counted}
use Rattle.mlk_walk_lines.proofs.FewStates.{alike_found, beside, beside_alike}
use Rattle.mlk_walk_lines.proofs.conditioned.where_true.Goals as goal

pub returns : goal.returns
returns c =
    let p = spot_of c.args.spot.now in
    let t = tree_of c.args.condition.now in
    let does = act p (action_of c.args.command.now.action) in
    let w = c.value.new.walk in
    alike_found c.with_aside.result c.with_aside.new.walk (beside c.in_ok-aside.aside c.act.new.walk)
    (by_condition p.scope t does stay (value p t c.args.walk.now)) c.with_aside.ensures
    (beside_alike c.in_ok-aside.aside c.act.new.walk (does c.where_it_holds.new.walk) c.in_ok-act.ensures
    ∙ ap (λ z. counted (beside z (does c.where_it_holds.new.walk))) c.in_ok-aside.ensures.fails
    ∙ ap (λ z. counted (beside (where_it_may_be false p.scope t w.going) (does z))) c.in_ok-aside.ensures.holds
    ∙ ap (λ z. counted (by_condition p.scope t does stay z)) c.in_ok-value.ensures)
