-- Expressions that touch no global and call nothing, as the code has them: for clauses of private functions.
use Rattle.std.specs.Prelude.{◌&&◌, Bool}
use Rattle.mlk_text.specs.declared.operator.Op.{Op}
use Rattle.mlk_syntax.specs.declared.expr.Expr.{Expr}
use Rattle.mlk_syntax.specs.declared.expr.Subscript.{Subscript}
use Rattle.mlk_syntax.specs.ExprTrees.{tree_of, sub_of}
use Rattle.mlk_expr.specs.declared.context.Allows.TheVariants.{NoTouches}
use Rattle.mlk_expr.specs.Touches.{may_stand}

abbrev pub quiet : Expr → Bool
quiet e = may_stand NoTouches (tree_of e)

abbrev pub quiet_subscript : Subscript → Bool
quiet_subscript s = may_stand NoTouches (sub_of s).1

abbrev pub quiet_link : Op × Expr → Bool
quiet_link l = quiet l.1

abbrev pub quiet_choice : Expr × Expr → Bool
quiet_choice c = quiet c.0 && quiet c.1
