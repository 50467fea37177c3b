use Rattle.std.proofs.Common.{◌≡◌, ◌+◌, length, drop, Some, true, subst, add-one}
use Rattle.mlk_syntax.specs.ExprTrees.{actual_trees}
use Rattle.mlk_expr.specs.Touches.{given_stand, Standing}
use Rattle.mlk_expr.specs.Grammar.{IsActualList}
use Rattle.mlk_expr.specs.Theorem.{ListEnds}
use Rattle.mlk_expr.proofs.Followed as followed
use Rattle.mlk_expr.specs.Reading.{actual_list_in}
use Rattle.mlk_text.specs.Failures.{FailsOn}
use Rattle.mlk_expr.proofs.Contexts.{actual_list_in-exact, same-standing}
use Rattle.mlk_expr.proofs.Places.{rest-within, stands, only, refuses}
use Rattle.mlk_expr.proofs.Joined.{same-list}
use Rattle.mlk_expr.proofs.public.read_actuals_where.Goals as goal

pub overflow_sub-result : goal.overflow_sub-result
overflow_sub-result c =
    let moved = subst (λ l. actual_list_in c.args.passing (record { end = length c.args.line.now + 1; left = 63; allows = c.args.allows }) l ≡ Some (actual_trees c.in-Ok.given.items, c.in-Ok.rest.now)) c.split_at.ensures.back c.in-Ok.ensures in
    let h = subst (λ n. actual_list_in c.args.passing (record { end = n; left = 63; allows = c.args.allows }) (drop c.args.at c.args.line.now) ≡ Some (actual_trees c.in-Ok.given.items, c.in-Ok.rest.now)) (add-one (length c.args.line.now)) moved in
    rest-within (λ end. actual_list_in c.args.passing (record { end = end; left = 63; allows = c.args.allows })) (λ end a xs ys. followed.IsActualList end a xs ys × (given_stand c.args.allows c.args.passing a ≡ true)) (Standing (given_stand c.args.allows c.args.passing) IsActualList) ListEnds (actual_list_in-exact c.args.allows c.args.passing) (same-standing (given_stand c.args.allows c.args.passing) followed.IsActualList IsActualList ListEnds same-list) c.args.line.now c.args.at (actual_trees c.in-Ok.given.items) c.in-Ok.rest.now h

pub returns-in-Ok-clause-found : goal.returns-in-Ok-clause-found
returns-in-Ok-clause-found c =
    let moved = subst (λ l. actual_list_in c.args.passing (record { end = length c.args.line.now + 1; left = 63; allows = c.args.allows }) l ≡ Some (actual_trees c.in-Ok.given.items, c.in-Ok.rest.now)) c.split_at.ensures.back c.in-Ok.ensures in
    let h = subst (λ n. actual_list_in c.args.passing (record { end = n; left = 63; allows = c.args.allows }) (drop c.args.at c.args.line.now) ≡ Some (actual_trees c.in-Ok.given.items, c.in-Ok.rest.now)) (add-one (length c.args.line.now)) moved in
    stands (λ end. actual_list_in c.args.passing (record { end = end; left = 63; allows = c.args.allows })) (λ end a xs ys. followed.IsActualList end a xs ys × (given_stand c.args.allows c.args.passing a ≡ true)) (Standing (given_stand c.args.allows c.args.passing) IsActualList) ListEnds (actual_list_in-exact c.args.allows c.args.passing) (same-standing (given_stand c.args.allows c.args.passing) followed.IsActualList IsActualList ListEnds same-list) c.args.line.now c.args.at c.requires (actual_trees c.in-Ok.given.items) c.in-Ok.rest.now h

pub returns-in-Ok-clause-only : goal.returns-in-Ok-clause-only
returns-in-Ok-clause-only c =
    let moved = subst (λ l. actual_list_in c.args.passing (record { end = length c.args.line.now + 1; left = 63; allows = c.args.allows }) l ≡ Some (actual_trees c.in-Ok.given.items, c.in-Ok.rest.now)) c.split_at.ensures.back c.in-Ok.ensures in
    let h = subst (λ n. actual_list_in c.args.passing (record { end = n; left = 63; allows = c.args.allows }) (drop c.args.at c.args.line.now) ≡ Some (actual_trees c.in-Ok.given.items, c.in-Ok.rest.now)) (add-one (length c.args.line.now)) moved in
    only (λ end. actual_list_in c.args.passing (record { end = end; left = 63; allows = c.args.allows })) (λ end a xs ys. followed.IsActualList end a xs ys × (given_stand c.args.allows c.args.passing a ≡ true)) (Standing (given_stand c.args.allows c.args.passing) IsActualList) ListEnds (actual_list_in-exact c.args.allows c.args.passing) (same-standing (given_stand c.args.allows c.args.passing) followed.IsActualList IsActualList ListEnds same-list) c.args.line.now c.args.at c.requires (actual_trees c.in-Ok.given.items) c.in-Ok.rest.now h

pub returns-in-Err-clause-refused : goal.returns-in-Err-clause-refused
returns-in-Err-clause-refused c =
    let moved = subst (λ l. FailsOn c.in-Err.refusal (actual_list_in c.args.passing (record { end = length c.args.line.now + 1; left = 63; allows = c.args.allows }) l)) c.split_at.ensures.back c.in-Err.ensures in
    let h = subst (λ n. FailsOn c.in-Err.refusal (actual_list_in c.args.passing (record { end = n; left = 63; allows = c.args.allows }) (drop c.args.at c.args.line.now))) (add-one (length c.args.line.now)) moved in
    refuses (λ end. actual_list_in c.args.passing (record { end = end; left = 63; allows = c.args.allows })) (λ end a xs ys. followed.IsActualList end a xs ys × (given_stand c.args.allows c.args.passing a ≡ true)) (Standing (given_stand c.args.allows c.args.passing) IsActualList) ListEnds (actual_list_in-exact c.args.allows c.args.passing) (same-standing (given_stand c.args.allows c.args.passing) followed.IsActualList IsActualList ListEnds same-list) c.args.line.now c.args.at c.requires c.in-Err.refusal c.locate.result h c.locate.ensures.alike
