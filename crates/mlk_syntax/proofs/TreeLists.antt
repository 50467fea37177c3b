-- Lists in trees.
use Rattle.std.proofs.Common.{◌≡◌, suc, List, [], ◌∷◌, length, refl, ap}
use Rattle.mlk_syntax.specs.declared.expr.Subscript.{Subscript}
use Rattle.mlk_syntax.specs.ExprTrees.{ActualTree, sub_trees, subs_from, actuals_from, as_list, count_subs}

-- as many subscripts as the list has
pub counted : (ss : List Subscript) → count_subs (subs_from (sub_trees ss)) ≡ length ss
counted [] = refl
counted (s ∷ ss) = ap suc (counted ss)

pub as_list_same : (given : List ActualTree) → as_list (actuals_from given) ≡ given
as_list_same [] = refl
as_list_same (a ∷ given) = ap (λ more. a ∷ more) (as_list_same given)
