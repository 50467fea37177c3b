-- How many subscripts and arguments there are.
use Rattle.std.proofs.Common.{◌≡◌, suc, List, [], ◌∷◌, length, refl, ap}
use Rattle.mlk_syntax.specs.ExprTrees.{count_subs}
use Rattle.mlk_syntax.specs.declared.expr.Expr.{Expr}
use Rattle.mlk_syntax.specs.declared.expr.Subscript.{Subscript}
use Rattle.mlk_machine_jobs.specs.Expressions.{count_trees}
use Rattle.mlk_machine_expressions.specs.PartViews.{subs_of, args_of}

pub subs_counted : (ss : List Subscript) → count_subs (subs_of ss) ≡ length ss
subs_counted [] = refl
subs_counted (s ∷ ss) = ap suc (subs_counted ss)

pub args_counted : (es : List Expr) → count_trees (args_of es) ≡ length es
args_counted [] = refl
args_counted (e ∷ es) = ap suc (args_counted es)
