use Rattle.std.proofs.Common.{◌+◌, refl}
use Rattle.std.proofs.lemmas.Result.{err_from_is_err_and}
use Rattle.mlk_syntax.specs.ExprTrees.{tree_of}
use Rattle.mlk_expr.specs.Grammar.{IsExprWhere}
use Rattle.mlk_expr.specs.Theorem.{ExprEnds}
use Rattle.mlk_routine_arguments.specs.Ends.{AfterEnds}
use Rattle.mlk_routine_arguments.specs.CommandGrammar.{IsAfter}
use Rattle.mlk_routine_arguments.proofs.Bytes.{optional_found, optional_nowhere}
use Rattle.mlk_routine_arguments.proofs.Outcomes.{hands_on}
use Rattle.mlk_routine_arguments.proofs.part.expr_after.Goals as goal

pub returns-in_err-value : goal.returns-in_err-value
returns-in_err-value c =
    let p = err_from_is_err_and c.from_residual.result c.from_residual.ensures.1 in
    let none = hands_on (IsExprWhere c.args.allows) ExprEnds (IsAfter c.args.first c.args.allows) (AfterEnds c.args.first) c.args.line.now c.args.at (c.args.at + 1)
    (optional_nowhere c.args.first c.args.allows c.args.line.now c.args.at (c.if-not-has_byte.ensures.yes refl)) c.in_err-value.field-0.0 c.in_err-value.ensures in
    rw (p.1, p.2) none

pub returns : goal.returns
returns c = optional_found c.args.first c.args.allows c.args.line.now c.args.at (c.if-not-has_byte.ensures.yes refl) (tree_of c.in_ok-value.value) c.in_ok-value.next c.in_ok-value.ensures
