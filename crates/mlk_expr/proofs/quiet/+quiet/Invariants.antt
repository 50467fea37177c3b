use Rattle.std.proofs.Common.{◌≡◌, take, true}
use Rattle.std.specs.List.{list_all}
use Rattle.mlk_expr.specs.Quiet.{quiet, quiet_subscript, quiet_link, quiet_choice}
use Rattle.mlk_expr.proofs.quiet.+quiet.Given as goal

abbrev pub invariant-are_quiet-loop-e : goal.invariant-are_quiet-loop-e
invariant-are_quiet-loop-e l = list_all quiet (take l.e-index l.es) ≡ true

abbrev pub invariant-are_quiet_subscripts-loop-subscript : goal.invariant-are_quiet_subscripts-loop-subscript
invariant-are_quiet_subscripts-loop-subscript l = list_all quiet_subscript (take l.subscript-index l.subscripts) ≡ true

abbrev pub invariant-is_quiet_chain-loop-operand : goal.invariant-is_quiet_chain-loop-operand
invariant-is_quiet_chain-loop-operand l = list_all quiet_link (take l.operand-index l.rest) ≡ true

abbrev pub invariant-are_quiet_choices-loop-condition : goal.invariant-are_quiet_choices-loop-condition
invariant-are_quiet_choices-loop-condition l = list_all quiet_choice (take l.condition-index l.choices) ≡ true
