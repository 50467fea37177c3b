use Rattle.std.proofs.Common.{refl, arith}
use Rattle.std.proofs.lemmas.Result.{err_from_is_err_and}
use Rattle.mlk_expr.specs.declared.context.Allows.TheVariants.{Everything}
use Rattle.mlk_syntax.specs.ExprTrees.{tree_of, Free}
use Rattle.mlk_expr.specs.Grammar.{IsExprWhere}
use Rattle.mlk_expr.specs.Theorem.{ExprEnds}
use Rattle.mlk_syntax.specs.Views.{call_of}
use Rattle.mlk_routine_arguments.proofs.Sequences.{both_found, denied_first, denied_second}
use Rattle.mlk_routine_arguments.proofs.Bytes.{byte_before, after_found, after_denied}
use Rattle.mlk_routine_arguments.proofs.Arguments.{no_call, do_found, do_parts, colon_again}
use Rattle.mlk_routine_arguments.proofs.call.do_argument.Goals as goal

pub returns-in_err-any : goal.returns-in_err-any
returns-in_err-any c =
    let p = err_from_is_err_and c.from_residual.result c.from_residual.ensures.1 in
    rw (p.1, p.2) (no_call c.args.line.now c.args.at c.in_err-any.field-0.0 c.in_err-any.ensures)

pub returns-then-not-has_byte : goal.returns-then-not-has_byte
returns-then-not-has_byte c = do_found c.args.line.now c.args.at (call_of c.in_ok-any.any) c.in_ok-any.next c.in_ok-any.ensures (c.if-not-has_byte.ensures.no refl)

pub returns-in_err-less : goal.returns-in_err-less
returns-in_err-less c =
    let p = err_from_is_err_and c.from_residual-in_err-less.result c.from_residual-in_err-less.ensures.1 in
    rw (p.1, p.2) (denied_first (do_parts c.args.line.now c.args.at (call_of c.in_ok-any.any) c.in_ok-any.next c.in_ok-any.ensures (c.if-not-has_byte.ensures.yes refl)) c.requires c.in_err-less.field-0.0 c.in_err-less.ensures)

pub expression-requires : goal.expression-requires
expression-requires c =
    let here = colon_again c.args.line.now c.args.at (call_of c.in_ok-any.any) c.in_ok-any.next c.in_ok-any.ensures Free (c.if-not-has_byte.ensures.yes refl) (call_of c.in_ok-less.less) c.in_ok-less.next c.in_ok-less.ensures in
    let size = byte_before c.args.line.now c.in_ok-less.next 58 here in
    omega (arith, size)

pub returns-in_err-condition : goal.returns-in_err-condition
returns-in_err-condition c =
    let p = err_from_is_err_and c.from_residual-in_err-condition.result c.from_residual-in_err-condition.ensures.1 in
    rw (p.1, p.2) (denied_second (do_parts c.args.line.now c.args.at (call_of c.in_ok-any.any) c.in_ok-any.next c.in_ok-any.ensures (c.if-not-has_byte.ensures.yes refl)) c.requires (call_of c.in_ok-less.less) c.in_ok-less.next c.in_ok-less.ensures c.in_err-condition.field-0.0
    (after_denied (IsExprWhere Everything) ExprEnds c.args.line.now c.in_ok-less.next 58 c.in_err-condition.field-0.0 c.in_err-condition.ensures))

pub returns : goal.returns
returns c =
    let here = colon_again c.args.line.now c.args.at (call_of c.in_ok-any.any) c.in_ok-any.next c.in_ok-any.ensures Free (c.if-not-has_byte.ensures.yes refl) (call_of c.in_ok-less.less) c.in_ok-less.next c.in_ok-less.ensures in
    both_found (do_parts c.args.line.now c.args.at (call_of c.in_ok-any.any) c.in_ok-any.next c.in_ok-any.ensures (c.if-not-has_byte.ensures.yes refl)) c.requires (call_of c.in_ok-less.less) (tree_of c.in_ok-condition.condition) c.in_ok-less.next c.in_ok-condition.next c.in_ok-less.ensures
    (after_found (IsExprWhere Everything) ExprEnds c.args.line.now c.in_ok-less.next 58 here (tree_of c.in_ok-condition.condition) c.in_ok-condition.next c.in_ok-condition.ensures)
