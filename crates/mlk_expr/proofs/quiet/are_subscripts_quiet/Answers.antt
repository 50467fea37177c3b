use Rattle.std.proofs.Common.{◌∙◌, ap, sym, inl, inr}
use Rattle.std.specs.List.{list_all}
use Rattle.mlk_syntax.specs.ExprTrees.{tree_of}
use Rattle.mlk_expr.specs.declared.context.Allows.TheVariants.{NoTouches}
use Rattle.mlk_expr.specs.Touches.{subs_stand}
use Rattle.mlk_expr.specs.Quiet.{quiet_subscript}
use Rattle.mlk_expr.proofs.QuietParts.{subs_of_local, subs_of_global}
use Rattle.mlk_expr.proofs.quiet.are_subscripts_quiet.Goals as goal

pub returns-in-Local : goal.returns-in-Local
returns-in-Local c =
    let quiet = c.are_quiet_subscripts.ensures ∙ ap (list_all quiet_subscript) c.deref.ensures.value in
    elim c.in-Local.is [
      | inl (name, is) ↦ quiet ∙ sym (ap (λ e. subs_stand NoTouches (tree_of e)) is ∙ subs_of_local name c.in-Local.subscripts)
      | inr (column, name, is) ↦ quiet ∙ sym (ap (λ e. subs_stand NoTouches (tree_of e)) is ∙ subs_of_global column name c.in-Local.subscripts)
    ]
