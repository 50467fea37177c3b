use Rattle.std.proofs.Common.{◌≡◌, drop}
use Rattle.mlk_syntax.specs.ExprTrees.{trees, trees_from, sub_trees, subs_from, links, links_from, choices, choices_from, actual_trees, actuals_from}
use Rattle.mlk_walk_exprs.specs.Walks.{joins}
use Rattle.mlk_walk_exprs.specs.Spots.{spot_of}
use Rattle.mlk_walk_exprs.specs.Expressions.{evaluate_all, capture_subs, evaluate_links, evaluate_choices, capture_actuals}
use Rattle.mlk_walk_exprs.proofs.expression.+evaluation.Given as goal

abbrev pub invariant-evaluate_all-loop-argument : goal.invariant-evaluate_all-loop-argument
invariant-evaluate_all-loop-argument l =
    evaluate_all (spot_of l.spot) l.how (trees_from (trees (drop l.argument-index l.arguments))) l.walk
    ≡ evaluate_all (spot_of l.spot) l.fn.how (trees_from (trees l.fn.arguments)) l.fn.walk

abbrev pub invariant-capture_subs-loop-subscript : goal.invariant-capture_subs-loop-subscript
invariant-capture_subs-loop-subscript l =
    capture_subs (spot_of l.spot) (subs_from (sub_trees (drop l.subscript-index l.subscripts))) l.walk
    ≡ capture_subs (spot_of l.spot) (subs_from (sub_trees l.fn.subscripts)) l.fn.walk

abbrev pub invariant-evaluate_links-loop-operand : goal.invariant-evaluate_links-loop-operand
invariant-evaluate_links-loop-operand l =
    evaluate_links (spot_of l.spot) (links_from (links (drop l.operand-index l.rest))) l.walk
    ≡ evaluate_links (spot_of l.spot) (links_from (links l.fn.rest)) l.fn.walk

abbrev pub invariant-evaluate_choices-loop-condition : goal.invariant-evaluate_choices-loop-condition
invariant-evaluate_choices-loop-condition l =
    joins l.waiting.items (evaluate_choices (spot_of l.spot) (choices_from (choices (drop l.condition-index l.conditions))) l.walk)
    ≡ evaluate_choices (spot_of l.spot) (choices_from (choices l.fn.conditions)) l.fn.walk

abbrev pub invariant-capture_actuals-loop-actual : goal.invariant-capture_actuals-loop-actual
invariant-capture_actuals-loop-actual l =
    capture_actuals (spot_of l.spot) (actuals_from (actual_trees (drop l.actual-index l.given))) l.walk
    ≡ capture_actuals (spot_of l.spot) (actuals_from (actual_trees l.fn.given)) l.fn.walk
