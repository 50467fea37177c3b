use Rattle.std.proofs.Common.{◌≡◌, ◌∷◌, [], ◌<◌, ◌≤◌, ℕ, suc, length, ◌+◌, ◌*◌}
use Rattle.mlk_text.specs.Lexemes.{byte_at}
use Rattle.mlk_text.specs.Reading.{many, put}
use Rattle.mlk_expr_tokens.specs.Lexemes.{op_at}
use Rattle.mlk_syntax.specs.ExprTrees.{tree_of, trees, sub_of, sub_trees, links, choice_of, choices, actual_of, actual_trees}
use Rattle.mlk_expr.specs.Reading.{next, nested_in, atom_in, pattern_at, linked, placed, choice_with, actual_with}
use Rattle.mlk_expr.proofs.read.+reading.Given as goal

abbrev pub decreases-atom : goal.decreases-atom
decreases-atom l = 24 * l.context.now.left + 0

abbrev pub decreases-right_operand : goal.decreases-right_operand
decreases-right_operand l = 24 * l.context.now.left + 1

abbrev pub decreases-chain_rest : goal.decreases-chain_rest
decreases-chain_rest l = 24 * l.context.now.left + 2

abbrev pub decreases-chain_after : goal.decreases-chain_after
decreases-chain_after l = 24 * l.context.now.left + 3

abbrev pub decreases-call_chain_after : goal.decreases-call_chain_after
decreases-call_chain_after l = 24 * l.context.now.left + 4

abbrev pub decreases-chain : goal.decreases-chain
decreases-chain l = 24 * l.context.now.left + 5

abbrev pub decreases-functions::exprs_rest : goal.decreases-functions::exprs_rest
decreases-functions::exprs_rest l = 24 * l.context.now.left + 6

abbrev pub decreases-functions::exprs : goal.decreases-functions::exprs
decreases-functions::exprs l = 24 * l.context.now.left + 7

abbrev pub decreases-names::subscript : goal.decreases-names::subscript
decreases-names::subscript l = 24 * l.context.now.left + 6

abbrev pub decreases-names::subs_rest : goal.decreases-names::subs_rest
decreases-names::subs_rest l = 24 * l.context.now.left + 7

abbrev pub decreases-names::subs : goal.decreases-names::subs
decreases-names::subs l = 24 * l.context.now.left + 8

abbrev pub decreases-names::some_subs : goal.decreases-names::some_subs
decreases-names::some_subs l = 24 * l.context.now.left + 9

abbrev pub decreases-names::subscripts : goal.decreases-names::subscripts
decreases-names::subscripts l = 24 * l.context.now.left + 10

abbrev pub decreases-functions::choice : goal.decreases-functions::choice
decreases-functions::choice l = 24 * l.context.now.left + 6

abbrev pub decreases-functions::choices_rest : goal.decreases-functions::choices_rest
decreases-functions::choices_rest l = 24 * l.context.now.left + 7

abbrev pub decreases-functions::choices : goal.decreases-functions::choices
decreases-functions::choices l = 24 * l.context.now.left + 8

abbrev pub decreases-actuals::actual : goal.decreases-actuals::actual
decreases-actuals::actual l = 24 * l.context.now.left + 6

abbrev pub decreases-actuals::actuals_rest : goal.decreases-actuals::actuals_rest
decreases-actuals::actuals_rest l = 24 * l.context.now.left + 7

abbrev pub decreases-actuals::actuals : goal.decreases-actuals::actuals
decreases-actuals::actuals l = 24 * l.context.now.left + 9

abbrev pub decreases-actuals::some_actuals : goal.decreases-actuals::some_actuals
decreases-actuals::some_actuals l = 24 * l.context.now.left + 8

abbrev pub decreases-functions::later_arguments : goal.decreases-functions::later_arguments
decreases-functions::later_arguments l = 24 * l.context.now.left + 6

abbrev pub decreases-functions::arguments : goal.decreases-functions::arguments
decreases-functions::arguments l = 24 * l.context.now.left + 8

abbrev pub decreases-functions::function : goal.decreases-functions::function
decreases-functions::function l = 24 * l.context.now.left + 9

abbrev pub decreases-actuals::call : goal.decreases-actuals::call
decreases-actuals::call l = 24 * l.context.now.left + 10

abbrev pub decreases-functions::dollar : goal.decreases-functions::dollar
decreases-functions::dollar l = 24 * l.context.now.left + 11

abbrev pub decreases-names::local : goal.decreases-names::local
decreases-names::local l = 24 * l.context.now.left + 11

abbrev pub decreases-names::global : goal.decreases-names::global
decreases-names::global l = 24 * l.context.now.left + 11

abbrev pub decreases-enclosed_expr : goal.decreases-enclosed_expr
decreases-enclosed_expr l = 24 * l.context.now.left + 6

abbrev pub decreases-unary_expr : goal.decreases-unary_expr
decreases-unary_expr l = 24 * l.context.now.left + 1

abbrev pub decreases-call_unary_expr : goal.decreases-call_unary_expr
decreases-call_unary_expr l = 24 * l.context.now.left + 2

abbrev pub decreases-operand : goal.decreases-operand
decreases-operand l = 24 * l.context.now.left + 23

abbrev pub invariant-chain_rest-loop-op : goal.invariant-chain_rest-loop-op
invariant-chain_rest-loop-op l =
    (n : ℕ) × (length l.rest < n) × (put (links l.found.items) (many op_at (linked (atom_in l.context) (pattern_at l.context.left)) n l.rest) ≡ many op_at (linked (atom_in l.context) (pattern_at l.context.left)) (suc (length l.bytes)) l.bytes)

abbrev pub decreases-chain_rest-loop-op : goal.decreases-chain_rest-loop-op
decreases-chain_rest-loop-op l = length l.rest

abbrev pub invariant-functions::exprs_rest-loop-after : goal.invariant-functions::exprs_rest-loop-after
invariant-functions::exprs_rest-loop-after l =
    (n : ℕ) × (length l.rest < n) × (put (trees l.found.items) (many (byte_at 44) (next (nested_in l.context)) n l.rest) ≡ put (tree_of l.fn.first ∷ []) (many (byte_at 44) (next (nested_in l.context)) (suc (length l.bytes)) l.bytes))

abbrev pub decreases-functions::exprs_rest-loop-after : goal.decreases-functions::exprs_rest-loop-after
decreases-functions::exprs_rest-loop-after l = length l.rest

abbrev pub invariant-functions::later_arguments-loop-after : goal.invariant-functions::later_arguments-loop-after
invariant-functions::later_arguments-loop-after l =
    (n : ℕ) × (length l.rest < n) × (put (trees l.found.items) (many (byte_at 44) (next (nested_in l.context)) n l.rest) ≡ put (tree_of l.fn.first ∷ []) (many (byte_at 44) (next (nested_in l.context)) (suc (length l.bytes)) l.bytes)) × (length l.found.items ≤ suc l.most)

abbrev pub decreases-functions::later_arguments-loop-after : goal.decreases-functions::later_arguments-loop-after
decreases-functions::later_arguments-loop-after l = length l.rest

abbrev pub invariant-names::subs_rest-loop-after : goal.invariant-names::subs_rest-loop-after
invariant-names::subs_rest-loop-after l =
    (n : ℕ) × (length l.rest < n) × (put (sub_trees l.found.items) (many (byte_at 44) (next (placed l.context.end (nested_in l.context))) n l.rest) ≡ put (sub_of l.fn.first ∷ []) (many (byte_at 44) (next (placed l.context.end (nested_in l.context))) (suc (length l.bytes)) l.bytes)) × (length l.found.items ≤ 32)

abbrev pub decreases-names::subs_rest-loop-after : goal.decreases-names::subs_rest-loop-after
decreases-names::subs_rest-loop-after l = length l.rest

abbrev pub invariant-functions::choices_rest-loop-after : goal.invariant-functions::choices_rest-loop-after
invariant-functions::choices_rest-loop-after l =
    (n : ℕ) × (length l.rest < n) × (put (choices l.found.items) (many (byte_at 44) (next (choice_with (nested_in l.context))) n l.rest) ≡ put (choice_of l.fn.first ∷ []) (many (byte_at 44) (next (choice_with (nested_in l.context))) (suc (length l.bytes)) l.bytes))

abbrev pub decreases-functions::choices_rest-loop-after : goal.decreases-functions::choices_rest-loop-after
decreases-functions::choices_rest-loop-after l = length l.rest

abbrev pub invariant-actuals::actuals_rest-loop-after : goal.invariant-actuals::actuals_rest-loop-after
invariant-actuals::actuals_rest-loop-after l =
    (n : ℕ) × (length l.rest < n) × (put (actual_trees l.found.items) (many (byte_at 44) (next (actual_with l.passing l.context.end (nested_in l.context))) n l.rest) ≡ put (actual_of l.fn.first ∷ []) (many (byte_at 44) (next (actual_with l.passing l.context.end (nested_in l.context))) (suc (length l.bytes)) l.bytes))

abbrev pub decreases-actuals::actuals_rest-loop-after : goal.decreases-actuals::actuals_rest-loop-after
decreases-actuals::actuals_rest-loop-after l = length l.rest
