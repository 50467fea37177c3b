use Rattle.std.proofs.Common.{◌≡◌, length, vec_len, arith, sym, ap, ◌∙◌}
use Rattle.std.specs.Prelude.{not}
use Rattle.mlk_expr.specs.Grammar.{has_subscript}
use Rattle.mlk_syntax.specs.ExprTrees.{tree_of, LocalName, GlobalName, subs_from, sub_trees}
use Rattle.mlk_syntax.proofs.Variants.{tree_local, tree_global}
use Rattle.mlk_expr.proofs.Steps.{local-subs, global-subs}
use Rattle.mlk_expr.proofs.part.has_subscript.Goals as goal

pub returns-in-Local : goal.returns-in-Local
returns-in-Local c =
    let size : vec_len c.in-Local.subs ≡ length c.in-Local.subs.items = omega (arith, c.in-Local.subs.ok) in
    let whole : tree_of c.args.tree.now ≡ LocalName c.in-Local.field-0 (subs_from (sub_trees c.in-Local.subs.items)) = rw c.in-Local.is (tree_local c.in-Local.field-0 c.in-Local.subs) in
    ap not c.is_empty.ensures ∙ local-subs c.in-Local.field-0 c.in-Local.subs.items (vec_len c.in-Local.subs) size ∙ ap has_subscript (sym whole)

pub returns-in-Global : goal.returns-in-Global
returns-in-Global c =
    let size : vec_len c.in-Global.subs ≡ length c.in-Global.subs.items = omega (arith, c.in-Global.subs.ok) in
    let whole : tree_of c.args.tree.now ≡ GlobalName c.in-Global.field-0 c.in-Global.field-1 (subs_from (sub_trees c.in-Global.subs.items)) = rw c.in-Global.is (tree_global c.in-Global.field-0 c.in-Global.field-1 c.in-Global.subs) in
    ap not c.is_empty-in-Global.ensures ∙ global-subs c.in-Global.field-0 c.in-Global.field-1 c.in-Global.subs.items (vec_len c.in-Global.subs) size
    ∙ ap has_subscript (sym whole)
