use Rattle.mlk_expr.specs.Grammar.{IsExpr, IsReference, IsActualList}
use Rattle.mlk_expr.specs.Theorem.{ExprEnds, ReferenceEnds, ListEnds}
use Rattle.mlk_expr.specs.Reading.{expr_at, reference_at, actual_list_at}
use Rattle.mlk_expr.proofs.Followed as followed
use Rattle.mlk_expr.proofs.Whole.{reference-exact, actual_list-exact}
use Rattle.mlk_expr.proofs.Places.{whole-exact}
use Rattle.mlk_expr.proofs.Joined.{same-expr, same-reference, same-list, one-of}
use Rattle.mlk_expr.proofs.law.one_tree.Goals as goal

pub returns : goal.returns
returns c = record {
  expressions = one-of expr_at followed.IsExpr IsExpr ExprEnds whole-exact same-expr;
  references = one-of reference_at followed.IsReference IsReference ReferenceEnds reference-exact same-reference;
  actuals = one-of actual_list_at followed.IsActualList IsActualList ListEnds actual_list-exact same-list;
}
