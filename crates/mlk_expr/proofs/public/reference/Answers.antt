use Rattle.std.proofs.Common.{sym, ap, ◌∙◌, Some}
use Rattle.mlk_syntax.specs.ExprTrees.{GlobalName, subs_from, sub_trees}
use Rattle.mlk_syntax.proofs.Variants.{tree_global}
use Rattle.mlk_expr.proofs.Contexts.{reference-gives}
use Rattle.mlk_expr.proofs.public.reference.Goals as goal

pub returns-in-Some : goal.returns-in-Some
returns-in-Some c =
    let whole = tree_global c.column_of.result c.in_ok-name.name c.in_ok-subs.subs in
    let read = reference-gives c.args.context.now c.args.bytes.now c.in-Some.after.now c.in_ok-name.name c.in_ok-name.rest.now (sub_trees c.in_ok-subs.subs.items) c.in_ok-subs.rest.now
    (sym c.in-Some.ensures) c.in_ok-name.ensures c.in_ok-subs.ensures in
    read ∙ ap (λ k. Some (GlobalName k c.in_ok-name.name (subs_from (sub_trees c.in_ok-subs.subs.items)), c.in_ok-subs.rest.now)) (sym c.column_of.ensures)
    ∙ ap (λ z. Some (z, c.in_ok-subs.rest.now)) (sym whole)
