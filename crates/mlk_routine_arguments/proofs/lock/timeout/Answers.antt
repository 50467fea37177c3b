use Rattle.std.proofs.Common.{◌≡◌, inl, inr, refl}
use Rattle.std.specs.Prelude.{◌⊎◌}
use Rattle.std.proofs.lemmas.Result.{err_from_is_err_and}
use Rattle.mlk_expr.specs.declared.context.Allows.TheVariants.{NoTouches}
use Rattle.mlk_syntax.specs.ExprTrees.{tree_of}
use Rattle.mlk_syntax.specs.declared.command.Sign.TheVariants as sign
use Rattle.mlk_expr.specs.Grammar.{IsExprWhere}
use Rattle.mlk_expr.specs.Theorem.{ExprEnds}
use Rattle.mlk_routine_arguments.proofs.Sequences.{turned_found, turned_denied}
use Rattle.mlk_routine_arguments.proofs.Bytes.{after_found, after_denied}
use Rattle.mlk_routine_arguments.proofs.Locks.{timed}
use Rattle.mlk_routine_arguments.proofs.lock.timeout.Goals as goal
use Rattle.mlk_routine_arguments.proofs.lock.timeout.Goals.{in-None, in-Plus}

pub returns-in_err-timeout : goal.returns-in_err-timeout
returns-in_err-timeout c =
    let p = err_from_is_err_and c.from_residual.result c.from_residual.ensures.1 in
    let here = c.if-not-has_byte.ensures.yes refl in
    let which : ((c.args.sign ≡ sign.None) × (c.match-sign.allows ≡ NoTouches)) ⊎ ((c.args.sign ≡ sign.Plus) × (c.match-sign.allows ≡ c.args.plus)) = elim c.match-sign.branch [ in-None w ↦ inl (w.in-None.is, w.allows-is) | in-Plus w ↦ inr (w.in-Plus.is, w.allows-is) ] in
    rw (p.1, p.2) (turned_denied (timed c.args.plus c.args.line.now c.args.at here c.args.sign c.match-sign.allows which) c.in_err-timeout.field-0.0
    (after_denied (IsExprWhere c.match-sign.allows) ExprEnds c.args.line.now c.args.at 58 c.in_err-timeout.field-0.0 c.in_err-timeout.ensures))

pub returns : goal.returns
returns c =
    let here = c.if-not-has_byte.ensures.yes refl in
    let which : ((c.args.sign ≡ sign.None) × (c.match-sign.allows ≡ NoTouches)) ⊎ ((c.args.sign ≡ sign.Plus) × (c.match-sign.allows ≡ c.args.plus)) = elim c.match-sign.branch [ in-None w ↦ inl (w.in-None.is, w.allows-is) | in-Plus w ↦ inr (w.in-Plus.is, w.allows-is) ] in
    turned_found (timed c.args.plus c.args.line.now c.args.at here c.args.sign c.match-sign.allows which) (tree_of c.in_ok-timeout.timeout) c.in_ok-timeout.next
    (after_found (IsExprWhere c.match-sign.allows) ExprEnds c.args.line.now c.args.at 58 here (tree_of c.in_ok-timeout.timeout) c.in_ok-timeout.next c.in_ok-timeout.ensures)
