use Rattle.std.proofs.Common.{◌≡◌, ◌∙◌, ap, sym, Some}
use Rattle.mlk_syntax.specs.declared.expr.Expr.TheVariants as rust
use Rattle.mlk_syntax.specs.ExprTrees.{tree_of, choices, choices_from, actual_trees, actuals_from}
use Rattle.mlk_walk_exprs.specs.Spots.{spot_of}
use Rattle.mlk_walk_exprs.specs.Expressions.{evaluate, evaluate_choices, capture_actuals, extrinsic}
use Rattle.mlk_walk_exprs.proofs.Opened.{carried, select_opens, call_opens}
use Rattle.mlk_walk_exprs.proofs.Waiting.{choice_turn, sub_turn}
use Rattle.mlk_walk_exprs.proofs.expression.+evaluation.Goals as goal

pub evaluate-returns-in-Select : goal.evaluate-returns-in-Select
evaluate-returns-in-Select t c = carried c.evaluate_choices.result c.evaluate_choices.new.walk _ _ c.evaluate_choices.ensures
    (ap (λ z. evaluate (spot_of c.args.spot.now) c.args.how (tree_of z) c.args.walk.now) c.in-Select.is
    ∙ select_opens (spot_of c.args.spot.now) c.args.how c.args.walk.now c.in-Select.conditions
    ∙ ap (λ z. evaluate_choices (spot_of c.args.spot.now) (choices_from (choices z)) c.args.walk.now) (search))

pub evaluate_choices-loop-condition-preserved : goal.evaluate_choices-loop-condition-preserved
evaluate_choices-loop-condition-preserved t c =
    choice_turn (spot_of c.args.spot.now) c.args.conditions.now c.loop-condition.condition-index c.loop-condition-item.result
    c.loop-condition.waiting.items c.push.new.self.items c.loop-condition.walk _ _ _ _ _
    c.loop-condition-test.true c.loop-condition-item.is c.in_ok-failed.ensures.holds
    (c.replace.ensures.after ∙ c.in_ok-failed.ensures.fails) c.in_ok-evaluate.ensures c.if-walk.false c.replace.ensures.value
    c.in_ok-push.ensures.items c.loop-condition.invariant

pub capture_subs-loop-subscript-preserved : goal.capture_subs-loop-subscript-preserved
capture_subs-loop-subscript-preserved t c =
    sub_turn (spot_of c.args.spot.now) c.args.subscripts.now c.loop-subscript.subscript-index c.subscript-item.result
    c.loop-subscript.walk _ _ _ c.loop-subscript-test.true c.subscript-item.is c.in_ok-evaluate.ensures c.in_ok-capture.ensures
    c.loop-subscript.invariant

pub evaluate-returns-in_ok-capture_actuals-in-Some : goal.evaluate-returns-in_ok-capture_actuals-in-Some
evaluate-returns-in_ok-capture_actuals-in-Some t c =
    let p = spot_of c.args.spot.now in
    let w = c.args.walk.now in
    let given = c.in-Some.given in
    let callee = c.in-Call.callee in
    let captured = c.capture_actuals.new.walk in
    let its : callee.value ≡ c.deref-in-Some-2.result.now = search in
    let all : given.items ≡ c.deref-in-Some-3.result.now = search in
    let found : capture_actuals p (actuals_from (actual_trees given.items)) w ≡ captured =
    ap (λ z. capture_actuals p (actuals_from (actual_trees z)) w) (sym c.deref-in-Some.ensures.value) ∙ sym c.in_ok-capture_actuals-in-Some.ensures in
    carried c.extrinsic-in-Some.result c.extrinsic-in-Some.new.walk _ _ c.extrinsic-in-Some.ensures
    (ap (λ z. evaluate p c.args.how (tree_of z) w) (c.in-Call.is ∙ ap (rust.Call c.in-Call.column callee) c.in-Some.is)
    ∙ call_opens p c.args.how w c.in-Call.column callee given
    ∙ ap (extrinsic p c.in-Call.column callee.value (actual_trees given.items)) found
    ∙ ap (λ z. extrinsic p c.in-Call.column z (actual_trees given.items) captured) its
    ∙ ap (λ z. extrinsic p c.in-Call.column c.deref-in-Some-2.result.now (actual_trees z) captured) all)
