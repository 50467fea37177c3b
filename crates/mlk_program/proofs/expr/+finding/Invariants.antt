use Rattle.std.proofs.Common.{take}
use Rattle.std.specs.Prelude.{flat_map}
use Rattle.mlk_program.specs.Found.{Finds, of_expr, of_subscript, of_link, of_choice, of_actual}
use Rattle.mlk_program.proofs.expr.+finding.Given as goal

abbrev pub invariant-in_chain-loop-operand : goal.invariant-in_chain-loop-operand
invariant-in_chain-loop-operand l = Finds (flat_map of_link (take l.operand-index l.rest)) l.fn.found.items l.found.items

abbrev pub invariant-in_exprs-loop-e : goal.invariant-in_exprs-loop-e
invariant-in_exprs-loop-e l = Finds (flat_map of_expr (take l.e-index l.es)) l.fn.found.items l.found.items

abbrev pub invariant-in_actuals-loop-actual : goal.invariant-in_actuals-loop-actual
invariant-in_actuals-loop-actual l = Finds (flat_map of_actual (take l.actual-index l.given)) l.fn.found.items l.found.items

abbrev pub invariant-in_select-loop-condition : goal.invariant-in_select-loop-condition
invariant-in_select-loop-condition l =
    Finds (flat_map of_choice (take l.condition-index l.branches)) l.fn.found.items l.found.items

abbrev pub invariant-in_subscripts-loop-subscript : goal.invariant-in_subscripts-loop-subscript
invariant-in_subscripts-loop-subscript l =
    Finds (flat_map of_subscript (take l.subscript-index l.subscripts)) l.fn.found.items l.found.items
