-- The calls that were found. This project's own.
use Rattle.std.specs.Prelude.{ℕ, ◌≡◌, List, [], ◌∷◌, ◌++◌, map, flat_map, Option, Some, None, option_map, Vec}
use Rattle.std.specs.declared.alloc.Global.{Global}
use Rattle.mlk_syntax.specs.declared.expr.Expr.{Expr}
use Rattle.mlk_syntax.specs.declared.expr.Actual.{Actual}
use Rattle.mlk_syntax.specs.declared.expr.Subscript.{Subscript}
use Rattle.mlk_text.specs.declared.operator.Op.{Op}
use Rattle.mlk_syntax.specs.declared.expr.Callee.{Callee}
use Rattle.mlk_syntax.specs.ExprTrees.{ActualTree, tree_of, actual_of, sub_of, actual_trees}
use Rattle.mlk_syntax.specs.Trees.{CallTree, Called}
use Rattle.mlk_program.specs.Calls.{in_tree, in_actual}
use Rattle.mlk_program.specs.declared.call.CallSite.{CallSite}

abbrev pub site_of : CallSite → CallTree
site_of s = Called s.column s.callee.now (option_map (λ v. actual_trees v.items) s.actuals.now)

-- these calls are added
abbrev pub Finds : List CallTree → List CallSite → List CallSite → Type 0
Finds calls old new = map site_of new ≡ map site_of old ++ calls

-- the calls in the values of the code
abbrev pub of_expr : Expr → List CallTree
of_expr e = in_tree (tree_of e)

abbrev pub of_subscript : Subscript → List CallTree
of_subscript s = in_tree (sub_of s).1

abbrev pub of_link : Op × Expr → List CallTree
of_link l = of_expr l.1

abbrev pub of_choice : Expr × Expr → List CallTree
of_choice c = of_expr c.0 ++ of_expr c.1

abbrev pub of_actual : Actual → List CallTree
of_actual a = in_actual (actual_of a)

-- an optional actual list, and a call with it
abbrev pub of_given : Option (Vec Actual Global) → List CallTree
of_given None = []
of_given (Some v) = flat_map of_actual v.items

abbrev pub given_of : Option (Vec Actual Global) → Option (List ActualTree)
given_of o = option_map (λ v. actual_trees v.items) o

abbrev pub of_call : ℕ → Callee → Option (Vec Actual Global) → List CallTree
of_call column callee o = Called column callee (given_of o) ∷ of_given o

-- the calls of an optional part
abbrev pub of_option : {A : Type 0} → (A → List CallTree) → Option A → List CallTree
of_option calls None = []
of_option calls (Some a) = calls a
