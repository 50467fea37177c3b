use Rattle.std.proofs.Common.{◌≡◌, map, refl, sym, ap, subst, ◌∙◌}
use Rattle.std.proofs.lemmas.Result.{err_from_is_err_and}
use Rattle.std.proofs.lemmas.Simd.{map-map}
use Rattle.mlk_expr.specs.declared.context.Allows.TheVariants.{NoCalls}
use Rattle.mlk_syntax.specs.ExprTrees.{tree_of, trees}
use Rattle.mlk_expr.specs.Grammar.{AreNext, IsExprWhere, IsList}
use Rattle.mlk_expr.specs.Theorem.{ExprEnds}
use Rattle.mlk_routine_arguments.specs.declared.set.CallFree.{CallFree}
use Rattle.mlk_routine_arguments.specs.PartsRead.{Found}
use Rattle.mlk_routine_arguments.specs.Ends.{AreEnded, NextEnds}
use Rattle.mlk_routine_arguments.proofs.Sequences.{turned_found, turned_denied}
use Rattle.mlk_routine_arguments.proofs.Bytes.{after_found, after_denied}
use Rattle.mlk_routine_arguments.proofs.Targets.{arguments_turned}
use Rattle.mlk_routine_arguments.proofs.set.arguments.Goals as goal

pub returns-in_err-items : goal.returns-in_err-items
returns-in_err-items c =
    let p = err_from_is_err_and c.from_residual.result c.from_residual.ensures.1 in
    let here = c.if-not-has_byte.ensures.yes refl in
    rw (p.1, p.2) (turned_denied (arguments_turned c.args.line.now c.args.at here) c.in_err-items.field-0.0
    (after_denied (IsList (IsExprWhere NoCalls)) (AreEnded ExprEnds) c.args.line.now c.args.at 44 c.in_err-items.field-0.0 c.in_err-items.ensures))

pub returns : goal.returns
returns c =
    let here = c.if-not-has_byte.ensures.yes refl in
    let inner = λ (item : CallFree). item.value in
    let items = map (λ item. tree_of (inner item)) c.in_ok-items.items.items in
    let same : items ≡ trees c.in_ok-arguments.arguments.items = sym (map-map tree_of inner c.in_ok-items.items.items) ∙ sym (ap trees c.in_ok-arguments.ensures) in
    subst (λ l. Found (AreNext (IsExprWhere NoCalls)) NextEnds c.args.line.now c.args.at l c.in_ok-items.next) same
    (turned_found (arguments_turned c.args.line.now c.args.at here) items c.in_ok-items.next
    (after_found (IsList (IsExprWhere NoCalls)) (AreEnded ExprEnds) c.args.line.now c.args.at 44 here items c.in_ok-items.next c.in_ok-items.ensures))
