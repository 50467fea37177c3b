use Rattle.std.proofs.Common.{sym, ◌∙◌, true, refl}
use Rattle.std.proofs.lemmas.Result.{err_from_is_err_and}
use Rattle.mlk_expr.specs.declared.context.Allows.TheVariants.{Everything}
use Rattle.mlk_syntax.specs.ExprTrees.{tree_of}
use Rattle.mlk_expr.specs.Theorem.{ExprEnds}
use Rattle.mlk_routine_arguments.specs.Ends.{StopEnds}
use Rattle.mlk_routine_arguments.specs.Begins.{expr_begins}
use Rattle.mlk_routine_arguments.specs.CommandGrammar.{IsValue}
use Rattle.mlk_routine_arguments.proofs.Outcomes.{denies}
use Rattle.mlk_routine_arguments.proofs.Bytes.{AfterByte, after_found, after_denied}
use Rattle.mlk_routine_arguments.proofs.Stopping.{narrowed_found, narrowed_nowhere, narrowed_denied, value_end, unspaced}
use Rattle.mlk_routine.proofs.command.returned_value.Goals as goal

pub returns-in_err-first : goal.returns-in_err-first
returns-in_err-first c =
    let p = err_from_is_err_and c.from_residual.result c.from_residual.ensures.1 in
    rw (p.1, p.2) (unspaced IsValue (expr_begins Everything) (λ t. StopEnds true) c.args.line.now c.args.at c.in_err-first.field-0.0 c.in_err-first.ensures)

pub returns-in_err-value : goal.returns-in_err-value
returns-in_err-value c =
    let p = err_from_is_err_and c.from_residual-in_err-value.result c.from_residual-in_err-value.ensures.1 in
    rw (p.1, p.2)
    (narrowed_denied (AfterByte 32 IsValue) ExprEnds (λ t. StopEnds true) c.args.line.now c.args.at value_end c.in_err-value.field-0.0
    (after_denied IsValue ExprEnds c.args.line.now c.args.at 32 c.in_err-value.field-0.0 (rw (sym c.in_ok-first.ensures.0) c.in_err-value.ensures)))

pub returns-then-not-is_command_end : goal.returns-then-not-is_command_end
returns-then-not-is_command_end c =
    denies (AfterByte 32 IsValue) (λ t. StopEnds true) c.args.line.now c.args.at c.refusal_at.result (c.refusal_at.ensures.fault c.args.line.now c.in_ok-value.ensures.0.within refl refl)
    (narrowed_nowhere (AfterByte 32 IsValue) ExprEnds (λ t. StopEnds true) c.args.line.now c.args.at value_end (tree_of c.in_ok-value.value) c.in_ok-value.next
    (after_found IsValue ExprEnds c.args.line.now c.args.at 32 c.in_ok-first.ensures.1 (tree_of c.in_ok-value.value) c.in_ok-value.next (rw (sym c.in_ok-first.ensures.0) c.in_ok-value.ensures))
    (λ bad. cc (sym c.if-not-is_command_end.true ∙ c.is_command_end.ensures ∙ bad)))

pub returns : goal.returns
returns c =
    narrowed_found (AfterByte 32 IsValue) ExprEnds (λ t. StopEnds true) c.args.line.now c.args.at value_end (tree_of c.in_ok-value.value) c.in_ok-value.next
    (after_found IsValue ExprEnds c.args.line.now c.args.at 32 c.in_ok-first.ensures.1 (tree_of c.in_ok-value.value) c.in_ok-value.next (rw (sym c.in_ok-first.ensures.0) c.in_ok-value.ensures))
    (sym c.is_command_end.ensures ∙ c.if-not-is_command_end.false)
