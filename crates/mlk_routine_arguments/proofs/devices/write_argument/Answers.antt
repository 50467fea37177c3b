use Rattle.std.proofs.Common.{option_map, refl, sym}
use Rattle.std.proofs.lemmas.Result.{err_from_is_err_and}
use Rattle.mlk_syntax.specs.ExprTrees.{tree_of}
use Rattle.mlk_expr.specs.Theorem.{ExprEnds}
use Rattle.mlk_routine_arguments.specs.CommandGrammar.{IsValue}
use Rattle.mlk_routine_arguments.proofs.Sequences.{turned_found, turned_denied}
use Rattle.mlk_routine_arguments.proofs.Bytes.{after_found, after_denied}
use Rattle.mlk_routine_arguments.proofs.Formats.{write_format, write_character, write_value}
use Rattle.mlk_routine_arguments.proofs.devices.write_argument.Goals as goal

pub returns-in_err-tab : goal.returns-in_err-tab
returns-in_err-tab c =
    let p = err_from_is_err_and c.from_residual.result c.from_residual.ensures.1 in
    rw (p.1, p.2) (turned_denied (write_format c.args.line.now c.args.at (sym c.if-starts_format.ensures)) c.in_err-tab.field-0.0 c.in_err-tab.ensures)

pub returns-then-starts_format : goal.returns-then-starts_format
returns-then-starts_format c = turned_found (write_format c.args.line.now c.args.at (sym c.if-starts_format.ensures)) (option_map tree_of c.in_ok-tab.tab) c.in_ok-tab.next c.in_ok-tab.ensures

pub returns-in_err-value : goal.returns-in_err-value
returns-in_err-value c =
    let p = err_from_is_err_and c.from_residual-in_err-value.result c.from_residual-in_err-value.ensures.1 in
    rw (p.1, p.2) (turned_denied (write_character c.args.line.now c.args.at (c.if-has_byte.ensures.yes refl)) c.in_err-value.field-0.0
    (after_denied IsValue ExprEnds c.args.line.now c.args.at 42 c.in_err-value.field-0.0 c.in_err-value.ensures))

pub returns-then-has_byte : goal.returns-then-has_byte
returns-then-has_byte c =
    turned_found (write_character c.args.line.now c.args.at (c.if-has_byte.ensures.yes refl)) (tree_of c.in_ok-value.value) c.in_ok-value.next
    (after_found IsValue ExprEnds c.args.line.now c.args.at 42 (c.if-has_byte.ensures.yes refl) (tree_of c.in_ok-value.value) c.in_ok-value.next c.in_ok-value.ensures)

pub returns-in_err-value-2 : goal.returns-in_err-value-2
returns-in_err-value-2 c =
    let p = err_from_is_err_and c.from_residual-in_err-value-2.result c.from_residual-in_err-value-2.ensures.1 in
    rw (p.1, p.2) (turned_denied (write_value c.args.line.now c.args.at (sym c.if-starts_format.ensures) (c.if-has_byte.ensures.no refl)) c.in_err-value-2.field-0.0 c.in_err-value-2.ensures)

pub returns : goal.returns
returns c =
    turned_found (write_value c.args.line.now c.args.at (sym c.if-starts_format.ensures) (c.if-has_byte.ensures.no refl)) (tree_of c.in_ok-value-2.value) c.in_ok-value-2.next c.in_ok-value-2.ensures
