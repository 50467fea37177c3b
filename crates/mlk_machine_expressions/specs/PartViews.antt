-- The tasks of expressions, from the code's values. This project's own.
use Rattle.std.specs.Prelude.{◌+◌, ℕ, Bool, true, false, if◌then◌else◌, List, [], ◌∷◌, ◌++◌, Option, Some, None}
use Rattle.mlk_text.specs.declared.operator.Op.{Op}
use Rattle.mlk_syntax.specs.declared.expr.Expr.{Expr}
use Rattle.mlk_syntax.specs.declared.expr.Subscript.{Subscript}
use Rattle.mlk_syntax.specs.declared.expr.Callee.{Callee}
use Rattle.mlk_syntax.specs.declared.expr.Function.{Function}
use Rattle.mlk_syntax.specs.declared.expr.Function.TheVariants as function
use Rattle.mlk_syntax.specs.ExprTrees.{Tree, LocalName, GlobalName, PatternText, no_subs, Trees, Subs, Links, ActualTree}
use Rattle.mlk_syntax.specs.ExprTrees.{trees, trees_from, sub_trees, subs_from, links, links_from, count_subs}
use Rattle.mlk_syntax.specs.Trees.{VariableTree, Named}
use Rattle.mlk_machine_expressions.specs.declared.expr.Naming.{Naming}
use Rattle.mlk_machine_expressions.specs.declared.expr.Naming.TheVariants as naming
use Rattle.mlk_machine_jobs.specs.Tasks.{Task, AskValue, Call}
use Rattle.mlk_machine_jobs.specs.Expressions.{each_sub, each_tree, count_trees, takes_name, each_actual}

-- parts of the code's values
abbrev pub subs_of : List Subscript → Subs
subs_of ss = subs_from (sub_trees ss)

abbrev pub args_of : List Expr → Trees
args_of es = trees_from (trees es)

abbrev pub links_of : List (Op × Expr) → Links
links_of ls = links_from (links ls)

-- subscripts and arguments whose values are replaced by any value
abbrev pub asked : Subs → Trees → List Task
asked subs more = each_sub subs ++ each_tree more ++ AskValue (count_subs subs + count_trees more) ∷ []

-- functions whose first argument is a name
abbrev pub naming_of : Naming → Function
naming_of naming.Data = function.Data
naming_of naming.Get = function.Get
naming_of naming.Increment = function.Increment
naming_of naming.Order = function.Order
naming_of naming.Query = function.Query
naming_of naming.Name = function.Name

abbrev pub named_function : Function → Option Function
named_function f = if takes_name f then Some f else None

-- a pattern follows `?` only
abbrev pub is_pattern_text : Tree → Bool
is_pattern_text (PatternText text) = true
is_pattern_text _ = false

-- an extrinsic call with these actuals
abbrev pub called_with : Callee → List ActualTree → List Task
called_with callee given = each_actual given ++ Call true callee given ∷ []

abbrev pub extrinsic_parts : Callee → Option (List ActualTree) → List Task
extrinsic_parts callee None = Call true callee [] ∷ []
extrinsic_parts callee (Some given) = called_with callee given

-- any value, after the evaluation of the arguments
abbrev pub values_with : Trees → List Task
values_with args = each_tree args ++ AskValue (count_trees args) ∷ []

-- a local or a global
abbrev pub is_variable : Tree → Bool
is_variable (LocalName name subs) = true
is_variable (GlobalName column name subs) = true
is_variable _ = false

-- the name of a local without subscripts
abbrev pub bare_name : VariableTree → Option (List ℕ)
bare_name (Named column (LocalName name no_subs)) = Some name
bare_name v = None
