use Rattle.std.proofs.Common.{◌≡◌, ◌∙◌, sym, ap, subst}
use Rattle.std.specs.Prelude.{OnOk}
use Rattle.mlk_syntax.specs.declared.expr.Expr.{Expr}
use Rattle.mlk_syntax.specs.ExprTrees.{tree_of}
use Rattle.mlk_walk_state.specs.declared.state.State.{State}
use Rattle.mlk_walk_state.specs.Scope.{scope_of}
use Rattle.mlk_walk_exprs.specs.Expressions.{with_symbol_of}
use Rattle.mlk_walk_exprs.proofs.Opened.{local_captured}
use Rattle.mlk_walk_exprs.proofs.expression.capture_value.Goals as goal

pub returns-in-Local : goal.returns-in-Local
returns-in-Local c =
    let sc = scope_of c.args.spot.now.scope.now in
    let s = c.args.state.now in
    let same = ap (λ (e : Expr). with_symbol_of sc (tree_of e) s) c.in-Local.is
    ∙ local_captured sc c.in-Local.name s c.in-Local.subscripts (rw c.as_slice.ensures.value at (sym c.is_empty.ensures ∙ c.if-is_empty.true)) in
    subst (λ (t : State). OnOk c.capture_local.result (c.capture_local.new.state ≡ t)) (sym same) c.capture_local.ensures
