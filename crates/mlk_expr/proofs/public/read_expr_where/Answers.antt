use Rattle.std.proofs.Common.{◌≡◌, ◌+◌, length, drop, Some, true, subst, add-one}
use Rattle.mlk_syntax.specs.ExprTrees.{tree_of}
use Rattle.mlk_expr.specs.Touches.{may_stand, Standing}
use Rattle.mlk_expr.specs.Grammar.{IsExpr}
use Rattle.mlk_expr.specs.Theorem.{ExprEnds}
use Rattle.mlk_expr.proofs.Followed as followed
use Rattle.mlk_expr.specs.Reading.{expr_in}
use Rattle.mlk_text.specs.Failures.{FailsOn}
use Rattle.mlk_expr.proofs.Contexts.{expr_in-exact, same-standing}
use Rattle.mlk_expr.proofs.Places.{rest-within, stands, only, refuses}
use Rattle.mlk_expr.proofs.Joined.{same-expr}
use Rattle.mlk_expr.proofs.public.read_expr_where.Goals as goal

pub overflow_sub-result : goal.overflow_sub-result
overflow_sub-result c =
    let moved = subst (λ l. expr_in (record { end = length c.args.line.now + 1; left = 64; allows = c.args.allows }) l ≡ Some (tree_of c.in-Ok.tree, c.in-Ok.rest.now)) c.split_at.ensures.back c.in-Ok.ensures in
    let h = subst (λ n. expr_in (record { end = n; left = 64; allows = c.args.allows }) (drop c.args.at c.args.line.now) ≡ Some (tree_of c.in-Ok.tree, c.in-Ok.rest.now)) (add-one (length c.args.line.now)) moved in
    rest-within (λ end. expr_in (record { end = end; left = 64; allows = c.args.allows })) (λ end a xs ys. followed.IsExpr end a xs ys × (may_stand c.args.allows a ≡ true)) (Standing (may_stand c.args.allows) IsExpr) ExprEnds (expr_in-exact c.args.allows) (same-standing (may_stand c.args.allows) followed.IsExpr IsExpr ExprEnds same-expr) c.args.line.now c.args.at (tree_of c.in-Ok.tree) c.in-Ok.rest.now h

pub returns-in-Ok-clause-found : goal.returns-in-Ok-clause-found
returns-in-Ok-clause-found c =
    let moved = subst (λ l. expr_in (record { end = length c.args.line.now + 1; left = 64; allows = c.args.allows }) l ≡ Some (tree_of c.in-Ok.tree, c.in-Ok.rest.now)) c.split_at.ensures.back c.in-Ok.ensures in
    let h = subst (λ n. expr_in (record { end = n; left = 64; allows = c.args.allows }) (drop c.args.at c.args.line.now) ≡ Some (tree_of c.in-Ok.tree, c.in-Ok.rest.now)) (add-one (length c.args.line.now)) moved in
    stands (λ end. expr_in (record { end = end; left = 64; allows = c.args.allows })) (λ end a xs ys. followed.IsExpr end a xs ys × (may_stand c.args.allows a ≡ true)) (Standing (may_stand c.args.allows) IsExpr) ExprEnds (expr_in-exact c.args.allows) (same-standing (may_stand c.args.allows) followed.IsExpr IsExpr ExprEnds same-expr) c.args.line.now c.args.at c.requires (tree_of c.in-Ok.tree) c.in-Ok.rest.now h

pub returns-in-Ok-clause-only : goal.returns-in-Ok-clause-only
returns-in-Ok-clause-only c =
    let moved = subst (λ l. expr_in (record { end = length c.args.line.now + 1; left = 64; allows = c.args.allows }) l ≡ Some (tree_of c.in-Ok.tree, c.in-Ok.rest.now)) c.split_at.ensures.back c.in-Ok.ensures in
    let h = subst (λ n. expr_in (record { end = n; left = 64; allows = c.args.allows }) (drop c.args.at c.args.line.now) ≡ Some (tree_of c.in-Ok.tree, c.in-Ok.rest.now)) (add-one (length c.args.line.now)) moved in
    only (λ end. expr_in (record { end = end; left = 64; allows = c.args.allows })) (λ end a xs ys. followed.IsExpr end a xs ys × (may_stand c.args.allows a ≡ true)) (Standing (may_stand c.args.allows) IsExpr) ExprEnds (expr_in-exact c.args.allows) (same-standing (may_stand c.args.allows) followed.IsExpr IsExpr ExprEnds same-expr) c.args.line.now c.args.at c.requires (tree_of c.in-Ok.tree) c.in-Ok.rest.now h

pub returns-in-Err-clause-refused : goal.returns-in-Err-clause-refused
returns-in-Err-clause-refused c =
    let moved = subst (λ l. FailsOn c.in-Err.refusal (expr_in (record { end = length c.args.line.now + 1; left = 64; allows = c.args.allows }) l)) c.split_at.ensures.back c.in-Err.ensures in
    let h = subst (λ n. FailsOn c.in-Err.refusal (expr_in (record { end = n; left = 64; allows = c.args.allows }) (drop c.args.at c.args.line.now))) (add-one (length c.args.line.now)) moved in
    refuses (λ end. expr_in (record { end = end; left = 64; allows = c.args.allows })) (λ end a xs ys. followed.IsExpr end a xs ys × (may_stand c.args.allows a ≡ true)) (Standing (may_stand c.args.allows) IsExpr) ExprEnds (expr_in-exact c.args.allows) (same-standing (may_stand c.args.allows) followed.IsExpr IsExpr ExprEnds same-expr) c.args.line.now c.args.at c.requires c.in-Err.refusal c.locate.result h c.locate.ensures.alike
