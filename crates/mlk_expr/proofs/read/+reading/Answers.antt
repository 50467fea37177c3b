use Rattle.std.proofs.Common.{◌≡◌, ◌≤◌, ◌∷◌, [], ◌++◌, suc, length, length-append, arith, sym, ap, ◌∙◌, Some, true, false}
use Rattle.std.proofs.lemmas.List.{map-append, length-map}
use Rattle.std.proofs.lemmas.Result.{err_from_is_err_and}
use Rattle.mlk_text.specs.Lexemes.{byte_at}
use Rattle.mlk_text.specs.Reading.{◌>>=◌, with}
use Rattle.mlk_text.proofs.Readers.{many_stops, many_goes}
use Rattle.mlk_expr_tokens.specs.Lexemes.{column_of, op_at}
use Rattle.mlk_syntax.specs.ExprTrees.{CallOf, actuals_from, tree_of, trees, sub_of, sub_trees, links, choice_of, choices, actual_of, actual_trees}
use Rattle.mlk_syntax.proofs.Variants.{tree_local, tree_global, tree_call, tree_func}
use Rattle.mlk_expr.proofs.Followed.{IsPlaced, IsChoice}
use Rattle.mlk_expr.specs.Touches.{globals_may, calls_may}
use Rattle.mlk_expr.specs.Reading.{at_most, next, nested_in, atom_in, quiet, pattern_at, linked, placed, choice_with, actual_with}
use Rattle.mlk_expr.proofs.Parts.{placed-exact}
use Rattle.mlk_expr.proofs.Arguments.{choice-exact}
use Rattle.mlk_expr.proofs.Contexts.{IsNestedIn, nested_in-exact, atom_in-above, atom_in-none, link-shorter, actual-shorter}
use Rattle.mlk_expr.proofs.Steps.{local-gives, local-fails, global-gives, global-fails, operand-local, operand-global, call-listed, call-fails, function-gives, function-fails, few-give, few-close, few-fail, list-fails, arguments-give, arguments-fail}
use Rattle.mlk_expr.proofs.Loops.{loop_fails, with_fails, then_fails, at_most-is, surplus, refused_fails, item-shorter}
use Rattle.std.proofs.lemmas.Bool.{and_left, and_right}
use Rattle.std.specs.Prelude.{not, ◌&&◌, vec_len}
use Rattle.mlk_expr.proofs.read.+reading.Goals as goal

pub atom-returns-then-context-eq0 : goal.atom-returns-then-context-eq0
atom-returns-then-context-eq0 t c = refused_fails c.too_deep.result _ c.too_deep.ensures (atom_in-none c.args.context.now c.args.bytes.now c.if-context-eq0.true)

pub atom-returns : goal.atom-returns
atom-returns t c = rw (atom_in-above c.args.context.now c.args.bytes.now (omega (arith, c.if-context-eq0.false))) c.operand.ensures

pub chain_rest-returns-in_err-item : goal.chain_rest-returns-in_err-item
chain_rest-returns-in_err-item t c =
    let p = err_from_is_err_and c.from_residual-in_err-item.result c.from_residual-in_err-item.ensures.1 in
    rw (p.1, p.2) (loop_fails op_at (linked (atom_in c.args.context.now) (pattern_at c.args.context.now.left)) _ c.loop-op.invariant.0 c.loop-op.rest.now _ c.in-Some.op c.in-Some.after.now c.in_err-item.field-0.0
    (sym c.in-Some.ensures) (with_fails _ _ _ c.in_err-item.ensures) c.loop-op.invariant.1 c.loop-op.invariant.2)

pub chain_rest-loop-op-smaller : goal.chain_rest-loop-op-smaller
chain_rest-loop-op-smaller t c = link-shorter c.args.context.now c.in-Some.op (tree_of c.in_ok-item.item) c.loop-op.rest.now c.in-Some.after.now c.in_ok-item.after.now (sym c.in-Some.ensures) c.in_ok-item.ensures

pub chain_rest-loop-op-preserved : goal.chain_rest-loop-op-preserved
chain_rest-loop-op-preserved t c =
    let less = link-shorter c.args.context.now c.in-Some.op (tree_of c.in_ok-item.item) c.loop-op.rest.now c.in-Some.after.now c.in_ok-item.after.now (sym c.in-Some.ensures) c.in_ok-item.ensures in
    let more = many_goes op_at (linked (atom_in c.args.context.now) (pattern_at c.args.context.now.left)) (links c.loop-op.found.items) c.loop-op.invariant.0 c.loop-op.rest.now _ c.in-Some.op c.in-Some.after.now
    (c.in-Some.op, tree_of c.in_ok-item.item) c.in_ok-item.after.now (sym c.in-Some.ensures) (ap (with (λ u. (c.in-Some.op, u))) c.in_ok-item.ensures) less c.loop-op.invariant.1 c.loop-op.invariant.2 in
    rw (c.push_reserved.ensures.items, c.in_ok-make_room.ensures.same, map-append) more

pub chain_rest-returns : goal.chain_rest-returns
chain_rest-returns t c = many_stops op_at (linked (atom_in c.args.context.now) (pattern_at c.args.context.now.left)) (links c.loop-op.found.items) c.loop-op.invariant.0 c.loop-op.rest.now _ (sym c.in_default.ensures) c.loop-op.invariant.1 c.loop-op.invariant.2

pub functions::exprs_rest-returns-in_err-item : goal.functions::exprs_rest-returns-in_err-item
functions::exprs_rest-returns-in_err-item t c =
    let p = err_from_is_err_and c.from_residual-in_err-item.result c.from_residual-in_err-item.ensures.1 in
    rw (p.1, p.2) (loop_fails (byte_at 44) (next (nested_in c.args.context.now)) _ c.loop-after.invariant.0 c.loop-after.rest.now _ 44 c.in-Some.after.now c.in_err-item.field-0.0
    (sym c.in-Some.ensures) c.in_err-item.ensures c.loop-after.invariant.1 c.loop-after.invariant.2)

pub functions::exprs_rest-loop-after-smaller : goal.functions::exprs_rest-loop-after-smaller
functions::exprs_rest-loop-after-smaller t c = item-shorter (nested_in c.args.context.now) (IsNestedIn c.args.context.now) (nested_in-exact c.args.context.now) (tree_of c.in_ok-item.item) c.loop-after.rest.now c.in-Some.after.now c.in_ok-item.after.now (sym c.in-Some.ensures) c.in_ok-item.ensures

pub functions::exprs_rest-loop-after-preserved : goal.functions::exprs_rest-loop-after-preserved
functions::exprs_rest-loop-after-preserved t c =
    let less = item-shorter (nested_in c.args.context.now) (IsNestedIn c.args.context.now) (nested_in-exact c.args.context.now) (tree_of c.in_ok-item.item) c.loop-after.rest.now c.in-Some.after.now c.in_ok-item.after.now (sym c.in-Some.ensures) c.in_ok-item.ensures in
    let more = many_goes (byte_at 44) (next (nested_in c.args.context.now)) (trees c.loop-after.found.items) c.loop-after.invariant.0 c.loop-after.rest.now _ 44 c.in-Some.after.now
    (tree_of c.in_ok-item.item) c.in_ok-item.after.now (sym c.in-Some.ensures) c.in_ok-item.ensures less c.loop-after.invariant.1 c.loop-after.invariant.2 in
    rw (c.push_reserved-in-Some.ensures.items, c.in_ok-make_room.ensures.same, map-append) more

pub functions::exprs_rest-returns : goal.functions::exprs_rest-returns
functions::exprs_rest-returns t c = many_stops (byte_at 44) (next (nested_in c.args.context.now)) (trees c.loop-after.found.items) c.loop-after.invariant.0 c.loop-after.rest.now _ (sym c.in_default.ensures) c.loop-after.invariant.1 c.loop-after.invariant.2

pub names::subs_rest-returns-in_err-item : goal.names::subs_rest-returns-in_err-item
names::subs_rest-returns-in_err-item t c =
    let p = err_from_is_err_and c.from_residual-in_err-item.result c.from_residual-in_err-item.ensures.1 in
    rw (p.1, p.2) (then_fails c.in_err-item.field-0.0 _ (at_most 32) (loop_fails (byte_at 44) (next (placed c.args.context.now.end (nested_in c.args.context.now))) _ c.loop-after.invariant.0 c.loop-after.rest.now _ 44 c.in-Some.after.now c.in_err-item.field-0.0
    (sym c.in-Some.ensures) c.in_err-item.ensures c.loop-after.invariant.1 c.loop-after.invariant.2))

pub names::subs_rest-returns-then-len-eq-MOST_SUBSCRIPTS : goal.names::subs_rest-returns-then-len-eq-MOST_SUBSCRIPTS
names::subs_rest-returns-then-len-eq-MOST_SUBSCRIPTS t c =
    let size : length (sub_trees c.loop-after.found.items) ≡ vec_len c.loop-after.found = omega (arith, c.loop-after.found.ok, length-map c.loop-after.found.items sub_of) in
    let counted = c.len.ensures in
    let full = c.if-len-eq-MOST_SUBSCRIPTS.true in
    refused_fails c.refusal_at.result _ c.refusal_at.ensures
    (surplus (byte_at 44) (next (placed c.args.context.now.end (nested_in c.args.context.now))) (sub_trees c.loop-after.found.items) c.loop-after.invariant.0 c.loop-after.rest.now _ 32 44 c.in-Some.after.now
    (sym c.in-Some.ensures) c.loop-after.invariant.1 (omega arith) c.loop-after.invariant.2)

pub names::subs_rest-loop-after-smaller : goal.names::subs_rest-loop-after-smaller
names::subs_rest-loop-after-smaller t c = item-shorter (placed c.args.context.now.end (nested_in c.args.context.now)) (IsPlaced c.args.context.now.end (IsNestedIn c.args.context.now)) (placed-exact c.args.context.now.end (nested_in c.args.context.now) (IsNestedIn c.args.context.now) (nested_in-exact c.args.context.now)) (sub_of c.in_ok-item.item) c.loop-after.rest.now c.in-Some.after.now c.in_ok-item.after.now (sym c.in-Some.ensures) c.in_ok-item.ensures

pub names::subs_rest-loop-after-preserved : goal.names::subs_rest-loop-after-preserved
names::subs_rest-loop-after-preserved t c =
    let less = item-shorter (placed c.args.context.now.end (nested_in c.args.context.now)) (IsPlaced c.args.context.now.end (IsNestedIn c.args.context.now)) (placed-exact c.args.context.now.end (nested_in c.args.context.now) (IsNestedIn c.args.context.now) (nested_in-exact c.args.context.now)) (sub_of c.in_ok-item.item) c.loop-after.rest.now c.in-Some.after.now c.in_ok-item.after.now (sym c.in-Some.ensures) c.in_ok-item.ensures in
    let more = many_goes (byte_at 44) (next (placed c.args.context.now.end (nested_in c.args.context.now))) (sub_trees c.loop-after.found.items) c.loop-after.invariant.0 c.loop-after.rest.now _ 44 c.in-Some.after.now
    (sub_of c.in_ok-item.item) c.in_ok-item.after.now (sym c.in-Some.ensures) c.in_ok-item.ensures less c.loop-after.invariant.1 c.loop-after.invariant.2 in
    let room : length (c.loop-after.found.items ++ c.in_ok-item.item ∷ []) ≤ 32 =
    (let same = c.if-len-eq-MOST_SUBSCRIPTS.false in let counted = c.len.ensures in let few = c.loop-after.invariant.3 in let grown = length-append c.loop-after.found.items (c.in_ok-item.item ∷ []) in omega (arith, c.loop-after.found.ok)) in
    rw (c.push_reserved-in-Some.ensures.items, c.in_ok-make_room.ensures.same, map-append) (more.0, more.1, more.2, room)

pub names::subs_rest-returns : goal.names::subs_rest-returns
names::subs_rest-returns t c =
    let size = length-map c.loop-after.found.items sub_of in
    let few = c.loop-after.invariant.3 in
    let whole = many_stops (byte_at 44) (next (placed c.args.context.now.end (nested_in c.args.context.now))) (sub_trees c.loop-after.found.items) c.loop-after.invariant.0 c.loop-after.rest.now _ (sym c.in_default.ensures) c.loop-after.invariant.1 c.loop-after.invariant.2 in
    ap (λ o. o >>= at_most 32) whole ∙ at_most-is 32 (sub_trees c.loop-after.found.items) c.loop-after.rest.now (omega arith)

pub names::subs-returns : goal.names::subs-returns
names::subs-returns t c = few-give (placed c.args.context.now.end (nested_in c.args.context.now)) 32 c.args.bytes.now (sub_of c.in_ok-first.first) c.in_ok-first.rest.now (sub_trees c.in_ok-found.found.items) c.in_ok-found.rest.now c.in-Some.rest.now
    c.in_ok-first.ensures c.in_ok-found.ensures (sym c.in-Some.ensures)

pub names::subs-returns-in_default : goal.names::subs-returns-in_default
names::subs-returns-in_default t c =
    refused_fails c.no_end.result _ c.no_end.ensures (few-close (placed c.args.context.now.end (nested_in c.args.context.now)) 32 c.args.bytes.now (sub_of c.in_ok-first.first) c.in_ok-first.rest.now (sub_trees c.in_ok-found.found.items) c.in_ok-found.rest.now
    c.in_ok-first.ensures c.in_ok-found.ensures (sym c.in_default.ensures))

pub names::subs-returns-in_err-first : goal.names::subs-returns-in_err-first
names::subs-returns-in_err-first t c =
    let p = err_from_is_err_and c.from_residual.result c.from_residual.ensures.1 in
    rw (p.1, p.2) (list-fails (placed c.args.context.now.end (nested_in c.args.context.now)) 32 c.args.bytes.now c.in_err-first.field-0.0 c.in_err-first.ensures)

pub names::subs-returns-in_err-found : goal.names::subs-returns-in_err-found
names::subs-returns-in_err-found t c =
    let p = err_from_is_err_and c.from_residual-in_err-found.result c.from_residual-in_err-found.ensures.1 in
    rw (p.1, p.2) (few-fail (placed c.args.context.now.end (nested_in c.args.context.now)) 32 c.args.bytes.now (sub_of c.in_ok-first.first) c.in_ok-first.rest.now c.in_err-found.field-0.0
    c.in_ok-first.ensures c.in_err-found.ensures)

pub functions::later_arguments-returns-in_err-item : goal.functions::later_arguments-returns-in_err-item
functions::later_arguments-returns-in_err-item t c =
    let p = err_from_is_err_and c.from_residual-in_err-item.result c.from_residual-in_err-item.ensures.1 in
    rw (p.1, p.2) (then_fails c.in_err-item.field-0.0 _ (at_most (suc c.args.most)) (loop_fails (byte_at 44) (next (nested_in c.args.context.now)) _ c.loop-after.invariant.0 c.loop-after.rest.now _ 44 c.in-Some.after.now c.in_err-item.field-0.0
    (sym c.in-Some.ensures) c.in_err-item.ensures c.loop-after.invariant.1 c.loop-after.invariant.2))

pub functions::later_arguments-returns-then-len-most : goal.functions::later_arguments-returns-then-len-most
functions::later_arguments-returns-then-len-most t c =
    let size : length (trees c.loop-after.found.items) ≡ vec_len c.loop-after.found = omega (arith, c.loop-after.found.ok, length-map c.loop-after.found.items tree_of) in
    let counted = c.len.ensures in
    let full = c.if-len-most.true in
    refused_fails c.refusal_at.result _ c.refusal_at.ensures
    (surplus (byte_at 44) (next (nested_in c.args.context.now)) (trees c.loop-after.found.items) c.loop-after.invariant.0 c.loop-after.rest.now _ (suc c.args.most) 44 c.in-Some.after.now
    (sym c.in-Some.ensures) c.loop-after.invariant.1 (omega arith) c.loop-after.invariant.2)

pub functions::later_arguments-loop-after-smaller : goal.functions::later_arguments-loop-after-smaller
functions::later_arguments-loop-after-smaller t c = item-shorter (nested_in c.args.context.now) (IsNestedIn c.args.context.now) (nested_in-exact c.args.context.now) (tree_of c.in_ok-item.item) c.loop-after.rest.now c.in-Some.after.now c.in_ok-item.after.now (sym c.in-Some.ensures) c.in_ok-item.ensures

pub functions::later_arguments-loop-after-preserved : goal.functions::later_arguments-loop-after-preserved
functions::later_arguments-loop-after-preserved t c =
    let less = item-shorter (nested_in c.args.context.now) (IsNestedIn c.args.context.now) (nested_in-exact c.args.context.now) (tree_of c.in_ok-item.item) c.loop-after.rest.now c.in-Some.after.now c.in_ok-item.after.now (sym c.in-Some.ensures) c.in_ok-item.ensures in
    let more = many_goes (byte_at 44) (next (nested_in c.args.context.now)) (trees c.loop-after.found.items) c.loop-after.invariant.0 c.loop-after.rest.now _ 44 c.in-Some.after.now
    (tree_of c.in_ok-item.item) c.in_ok-item.after.now (sym c.in-Some.ensures) c.in_ok-item.ensures less c.loop-after.invariant.1 c.loop-after.invariant.2 in
    let room : length (c.loop-after.found.items ++ c.in_ok-item.item ∷ []) ≤ (suc c.args.most) =
    (let same = c.if-len-most.false in let counted = c.len.ensures in let grown = length-append c.loop-after.found.items (c.in_ok-item.item ∷ []) in omega (arith, c.loop-after.found.ok)) in
    rw (c.push_reserved-in-Some.ensures.items, c.in_ok-make_room.ensures.same, map-append) (more.0, more.1, more.2, room)

pub functions::later_arguments-returns : goal.functions::later_arguments-returns
functions::later_arguments-returns t c =
    let size = length-map c.loop-after.found.items tree_of in
    let few = c.loop-after.invariant.3 in
    let whole = many_stops (byte_at 44) (next (nested_in c.args.context.now)) (trees c.loop-after.found.items) c.loop-after.invariant.0 c.loop-after.rest.now _ (sym c.in_default.ensures) c.loop-after.invariant.1 c.loop-after.invariant.2 in
    ap (λ o. o >>= at_most (suc c.args.most)) whole ∙ at_most-is (suc c.args.most) (trees c.loop-after.found.items) c.loop-after.rest.now (omega arith)

pub functions::choices_rest-returns-in_err-item : goal.functions::choices_rest-returns-in_err-item
functions::choices_rest-returns-in_err-item t c =
    let p = err_from_is_err_and c.from_residual-in_err-item.result c.from_residual-in_err-item.ensures.1 in
    rw (p.1, p.2) (loop_fails (byte_at 44) (next (choice_with (nested_in c.args.context.now))) _ c.loop-after.invariant.0 c.loop-after.rest.now _ 44 c.in-Some.after.now c.in_err-item.field-0.0
    (sym c.in-Some.ensures) c.in_err-item.ensures c.loop-after.invariant.1 c.loop-after.invariant.2)

pub functions::choices_rest-loop-after-smaller : goal.functions::choices_rest-loop-after-smaller
functions::choices_rest-loop-after-smaller t c = item-shorter (choice_with (nested_in c.args.context.now)) (IsChoice (IsNestedIn c.args.context.now)) (choice-exact (nested_in c.args.context.now) (IsNestedIn c.args.context.now) (nested_in-exact c.args.context.now)) (choice_of c.in_ok-item.item) c.loop-after.rest.now c.in-Some.after.now c.in_ok-item.after.now (sym c.in-Some.ensures) c.in_ok-item.ensures

pub functions::choices_rest-loop-after-preserved : goal.functions::choices_rest-loop-after-preserved
functions::choices_rest-loop-after-preserved t c =
    let less = item-shorter (choice_with (nested_in c.args.context.now)) (IsChoice (IsNestedIn c.args.context.now)) (choice-exact (nested_in c.args.context.now) (IsNestedIn c.args.context.now) (nested_in-exact c.args.context.now)) (choice_of c.in_ok-item.item) c.loop-after.rest.now c.in-Some.after.now c.in_ok-item.after.now (sym c.in-Some.ensures) c.in_ok-item.ensures in
    let more = many_goes (byte_at 44) (next (choice_with (nested_in c.args.context.now))) (choices c.loop-after.found.items) c.loop-after.invariant.0 c.loop-after.rest.now _ 44 c.in-Some.after.now
    (choice_of c.in_ok-item.item) c.in_ok-item.after.now (sym c.in-Some.ensures) c.in_ok-item.ensures less c.loop-after.invariant.1 c.loop-after.invariant.2 in
    rw (c.push_reserved-in-Some.ensures.items, c.in_ok-make_room.ensures.same, map-append) more

pub functions::choices_rest-returns : goal.functions::choices_rest-returns
functions::choices_rest-returns t c = many_stops (byte_at 44) (next (choice_with (nested_in c.args.context.now))) (choices c.loop-after.found.items) c.loop-after.invariant.0 c.loop-after.rest.now _ (sym c.in_default.ensures) c.loop-after.invariant.1 c.loop-after.invariant.2

pub actuals::actuals_rest-returns-in_err-item : goal.actuals::actuals_rest-returns-in_err-item
actuals::actuals_rest-returns-in_err-item t c =
    let p = err_from_is_err_and c.from_residual-in_err-item.result c.from_residual-in_err-item.ensures.1 in
    rw (p.1, p.2) (loop_fails (byte_at 44) (next (actual_with c.args.passing c.args.context.now.end (nested_in c.args.context.now))) _ c.loop-after.invariant.0 c.loop-after.rest.now _ 44 c.in-Some.after.now c.in_err-item.field-0.0
    (sym c.in-Some.ensures) c.in_err-item.ensures c.loop-after.invariant.1 c.loop-after.invariant.2)

pub actuals::actuals_rest-loop-after-smaller : goal.actuals::actuals_rest-loop-after-smaller
actuals::actuals_rest-loop-after-smaller t c = actual-shorter c.args.passing c.args.context.now (actual_of c.in_ok-item.item) c.loop-after.rest.now c.in-Some.after.now c.in_ok-item.after.now (sym c.in-Some.ensures) c.in_ok-item.ensures

pub actuals::actuals_rest-loop-after-preserved : goal.actuals::actuals_rest-loop-after-preserved
actuals::actuals_rest-loop-after-preserved t c =
    let less = actual-shorter c.args.passing c.args.context.now (actual_of c.in_ok-item.item) c.loop-after.rest.now c.in-Some.after.now c.in_ok-item.after.now (sym c.in-Some.ensures) c.in_ok-item.ensures in
    let more = many_goes (byte_at 44) (next (actual_with c.args.passing c.args.context.now.end (nested_in c.args.context.now))) (actual_trees c.loop-after.found.items) c.loop-after.invariant.0 c.loop-after.rest.now _ 44 c.in-Some.after.now
    (actual_of c.in_ok-item.item) c.in_ok-item.after.now (sym c.in-Some.ensures) c.in_ok-item.ensures less c.loop-after.invariant.1 c.loop-after.invariant.2 in
    rw (c.push_reserved-in-Some.ensures.items, c.in_ok-make_room.ensures.same, map-append) more

pub actuals::actuals_rest-returns : goal.actuals::actuals_rest-returns
actuals::actuals_rest-returns t c = many_stops (byte_at 44) (next (actual_with c.args.passing c.args.context.now.end (nested_in c.args.context.now))) (actual_trees c.loop-after.found.items) c.loop-after.invariant.0 c.loop-after.rest.now _ (sym c.in_default.ensures) c.loop-after.invariant.1 c.loop-after.invariant.2

pub functions::arguments-returns : goal.functions::arguments-returns
functions::arguments-returns t c =
    arguments-give (atom_in c.args.context.now) (nested_in c.args.context.now) (nested_in (quiet c.args.context.now)) c.args.function c.in-Some.most c.args.bytes.now (tree_of c.in_ok-first.first) c.in_ok-first.rest.now
    (trees c.in_ok-args.args.items) c.in_ok-args.rest.now c.in-Some-byte_of.rest.now (sym c.in-Some.ensures) (sym c.if-not-starts_reference.ensures) c.in_ok-first.ensures (sym c.if-not-takes.ensures) c.in_ok-args.ensures (sym c.in-Some-byte_of.ensures)

pub functions::arguments-returns-in_err-args : goal.functions::arguments-returns-in_err-args
functions::arguments-returns-in_err-args t c =
    let p = err_from_is_err_and c.from_residual-in_err-args.result c.from_residual-in_err-args.ensures.1 in
    rw (p.1, p.2) (arguments-fail (atom_in c.args.context.now) (nested_in c.args.context.now) (nested_in (quiet c.args.context.now)) c.args.function c.in-Some.most c.args.bytes.now (tree_of c.in_ok-first.first) c.in_ok-first.rest.now c.in_err-args.field-0.0
    (sym c.in-Some.ensures) (sym c.if-not-starts_reference.ensures) c.in_ok-first.ensures (sym c.if-not-takes.ensures) c.in_err-args.ensures)

pub names::local-returns : goal.names::local-returns
names::local-returns t c =
    let whole = tree_local c.in_ok-name.name c.in_ok-subs.subs in
    local-gives true c.args.context.now.end (nested_in c.args.context.now) c.args.bytes.now c.in_ok-name.name c.in_ok-name.rest.now (sub_trees c.in_ok-subs.subs.items) c.in_ok-subs.rest.now
    c.in_ok-name.ensures c.in_ok-subs.ensures ∙ ap (λ z. Some (z, c.in_ok-subs.rest.now)) (sym whole)

pub names::local-returns-in_err-subs : goal.names::local-returns-in_err-subs
names::local-returns-in_err-subs t c =
    let p = err_from_is_err_and c.from_residual-in_err-subs.result c.from_residual-in_err-subs.ensures.1 in
    rw (p.1, p.2) (local-fails true c.args.context.now.end (nested_in c.args.context.now) c.args.bytes.now c.in_ok-name.name c.in_ok-name.rest.now c.in_err-subs.field-0.0 c.in_ok-name.ensures c.in_err-subs.ensures)

pub names::global-returns : goal.names::global-returns
names::global-returns t c =
    let whole = tree_global c.column_of.result c.in_ok-name.name c.in_ok-subs.subs in
    rw (sym c.column_of.ensures) (global-gives (globals_may c.args.context.now.allows) c.args.context.now.end (nested_in c.args.context.now) c.args.bytes.now c.in_ok-name.name c.in_ok-name.rest.now c.column_of.result (sub_trees c.in_ok-subs.subs.items) c.in_ok-subs.rest.now
    c.in_ok-name.ensures c.in_ok-subs.ensures ∙ ap (λ z. Some (z, c.in_ok-subs.rest.now)) (sym whole))

pub names::global-returns-in_err-subs : goal.names::global-returns-in_err-subs
names::global-returns-in_err-subs t c =
    let p = err_from_is_err_and c.from_residual-in_err-subs.result c.from_residual-in_err-subs.ensures.1 in
    rw (p.1, p.2) (global-fails (globals_may c.args.context.now.allows) c.args.context.now.end (nested_in c.args.context.now) c.args.bytes.now c.in_ok-name.name c.in_ok-name.rest.now c.in_err-subs.field-0.0 (column_of c.args.context.now.end c.args.whole.now) c.in_ok-name.ensures c.in_err-subs.ensures)

pub operand-returns-in-Letter : goal.operand-returns-in-Letter
operand-returns-in-Letter t c =
    rw (operand-local c.args.context.now.allows c.args.context.now.end (atom_in c.args.context.now) (nested_in (quiet c.args.context.now)) (pattern_at c.args.context.now.left) c.in-Some.first.now c.in-Some.after.now c.args.bytes.now c.in-Some.ensures.cases.0 (sym c.in-Letter.ensures)) c.local.ensures

pub operand-returns-in-Caret : goal.operand-returns-in-Caret
operand-returns-in-Caret t c =
    rw (operand-global c.args.context.now.allows c.args.context.now.end (atom_in c.args.context.now) (nested_in (quiet c.args.context.now)) (pattern_at c.args.context.now.left) c.in-Some.first.now c.in-Some.after.now c.args.bytes.now c.in-Some.ensures.cases.0 (sym c.in-Caret.ensures)) c.global.ensures

pub actuals::call-returns : goal.actuals::call-returns
actuals::call-returns t c =
    let whole = tree_call c.column_of-column.result c.in_ok-boxed.boxed c.in_ok-given.given in
    rw (sym c.column_of-column.ensures) (call-listed (calls_may c.args.context.now.allows) c.args.context.now.end (nested_in c.args.context.now) c.column_of-column.result c.args.bytes.now c.in_ok-callee.callee c.in_ok-callee.rest.now c.in-Some.after.now (actual_trees c.in_ok-given.given.items) c.in_ok-given.rest.now
    (sym c.if-not-calls.ensures) c.in_ok-callee.ensures (sym c.in-Some.ensures) c.in_ok-given.ensures
    ∙ ap (λ callee. Some (CallOf c.column_of-column.result callee (actuals_from (actual_trees c.in_ok-given.given.items)), c.in_ok-given.rest.now)) (sym c.in_ok-boxed.ensures.ok)
    ∙ ap (λ z. Some (z, c.in_ok-given.rest.now)) (sym whole))

pub actuals::call-returns-in_err-given : goal.actuals::call-returns-in_err-given
actuals::call-returns-in_err-given t c =
    let p = err_from_is_err_and c.from_residual-in_err-given.result c.from_residual-in_err-given.ensures.1 in
    rw (p.1, p.2) (call-fails c.in_err-given.field-0.0 (calls_may c.args.context.now.allows) c.args.context.now.end (nested_in c.args.context.now) (column_of c.args.context.now.end c.args.whole.now) c.args.bytes.now c.in_ok-callee.callee c.in_ok-callee.rest.now c.in-Some.after.now
    (sym c.if-not-calls.ensures) c.in_ok-callee.ensures (sym c.in-Some.ensures) c.in_err-given.ensures)

pub functions::function-returns : goal.functions::function-returns
functions::function-returns t c =
    let whole = tree_func c.in-Some.function c.in_ok-args.args in
    function-gives c.args.context.now.allows (atom_in c.args.context.now) (nested_in c.args.context.now) (nested_in (quiet c.args.context.now)) c.args.word.now c.args.bytes.now c.in-Some.function (trees c.in_ok-args.args.items) c.in_ok-args.rest.now
    (sym c.if-is_select.ensures) (sym c.in-Some.ensures) (sym c.if-not-function.ensures) c.in_ok-args.ensures ∙ ap (λ z. Some (z, c.in_ok-args.rest.now)) (sym whole)

pub functions::function-returns-in_err-args : goal.functions::function-returns-in_err-args
functions::function-returns-in_err-args t c =
    let p = err_from_is_err_and c.from_residual-in_err-args.result c.from_residual-in_err-args.ensures.1 in
    rw (p.1, p.2) (function-fails c.in_err-args.field-0.0 c.args.context.now.allows (atom_in c.args.context.now) (nested_in c.args.context.now) (nested_in (quiet c.args.context.now)) c.args.word.now c.args.bytes.now c.in-Some.function
    (sym c.if-is_select.ensures) (sym c.in-Some.ensures) (sym c.if-not-function.ensures) c.in_err-args.ensures)
