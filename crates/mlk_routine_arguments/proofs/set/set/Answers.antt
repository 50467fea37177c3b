use Rattle.std.proofs.Common.{◌+◌, map, refl, subst}
use Rattle.std.proofs.lemmas.Result.{err_from_is_err_and}
use Rattle.mlk_syntax.specs.ExprTrees.{tree_of}
use Rattle.mlk_expr.specs.Grammar.{IsExprWhere}
use Rattle.mlk_expr.specs.Theorem.{ExprEnds}
use Rattle.mlk_routine_arguments.specs.PartsRead.{Found, Denied}
use Rattle.mlk_routine_arguments.specs.Ends.{SetEnds}
use Rattle.mlk_syntax.specs.Views.{target_of}
use Rattle.mlk_routine_arguments.specs.CommandGrammar.{in_set, IsSet}
use Rattle.mlk_routine_arguments.proofs.Outcomes.{denies}
use Rattle.mlk_routine_arguments.proofs.Sequences.{both_found, denied_first, denied_second, second_nowhere}
use Rattle.mlk_routine_arguments.proofs.Bytes.{after_found, after_denied, after_missing}
use Rattle.mlk_routine_arguments.proofs.Targets.{set_parts}
use Rattle.mlk_routine_arguments.proofs.set.set.Goals as goal

pub returns-in_err-targets : goal.returns-in_err-targets
returns-in_err-targets c =
    let p = err_from_is_err_and c.from_residual.result c.from_residual.ensures.1 in
    rw (p.1, p.2) (denied_first (set_parts c.args.dialect c.args.line.now c.args.at) c.requires c.in_err-targets.field-0.0 c.in_err-targets.ensures)

pub returns-then-not-has_byte : goal.returns-then-not-has_byte
returns-then-not-has_byte c =
    let t = c.in_ok-targets in
    denies (IsSet c.args.dialect) SetEnds c.args.line.now c.args.at c.refusal_at.result (c.refusal_at.ensures.fault c.args.line.now c.in_ok-targets.ensures.0.within refl refl)
    (second_nowhere (set_parts c.args.dialect c.args.line.now c.args.at) c.requires (map target_of t.targets) t.next t.ensures
    (after_missing (IsExprWhere (in_set c.args.dialect)) ExprEnds c.args.line.now t.next 61 (c.if-not-has_byte.ensures.no refl)))

pub returns-in_err-value : goal.returns-in_err-value
returns-in_err-value c =
    let p = err_from_is_err_and c.from_residual-in_err-value.result c.from_residual-in_err-value.ensures.1 in
    let t = c.in_ok-targets in
    rw (p.1, p.2) (denied_second (set_parts c.args.dialect c.args.line.now c.args.at) c.requires (map target_of t.targets) t.next t.ensures c.in_err-value.field-0.0
    (after_denied (IsExprWhere (in_set c.args.dialect)) ExprEnds c.args.line.now t.next 61 c.in_err-value.field-0.0
    (subst (λ a. Denied (IsExprWhere a) ExprEnds c.args.line.now (t.next + 1) c.in_err-value.field-0.0) c.allowed.ensures c.in_err-value.ensures)))

pub returns : goal.returns
returns c =
    let t = c.in_ok-targets in
    both_found (set_parts c.args.dialect c.args.line.now c.args.at) c.requires (map target_of t.targets) (tree_of c.in_ok-value.value) t.next c.in_ok-value.next t.ensures
    (after_found (IsExprWhere (in_set c.args.dialect)) ExprEnds c.args.line.now t.next 61 (c.if-not-has_byte.ensures.yes refl) (tree_of c.in_ok-value.value) c.in_ok-value.next
    (subst (λ a. Found (IsExprWhere a) ExprEnds c.args.line.now (t.next + 1) (tree_of c.in_ok-value.value) c.in_ok-value.next) c.allowed.ensures c.in_ok-value.ensures))
