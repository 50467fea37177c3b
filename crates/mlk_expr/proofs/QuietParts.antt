-- Quiet expressions, from the code's lists to those of trees.
use Rattle.std.proofs.Common.{◌≡◌, refl, ap, ◌∙◌, ℕ, List, [], ◌∷◌, Vec, Box, Global}
use Rattle.std.specs.Prelude.{◌&&◌}
use Rattle.std.specs.List.{list_all}
use Rattle.mlk_text.specs.declared.operator.Op.{Op}
use Rattle.mlk_syntax.specs.declared.expr.Expr.{Expr}
use Rattle.mlk_syntax.specs.declared.expr.Subscript.{Subscript}
use Rattle.mlk_syntax.specs.declared.expr.Function.{Function}
use Rattle.mlk_syntax.specs.declared.expr.Expr.TheVariants as rust
use Rattle.mlk_syntax.specs.ExprTrees.{tree_of, trees, sub_trees, links, choices, trees_from, subs_from, links_from, choices_from}
use Rattle.mlk_syntax.proofs.Variants.{tree_func, tree_local, tree_global, tree_binary, tree_select}
use Rattle.mlk_expr.specs.declared.context.Allows.TheVariants.{NoTouches}
use Rattle.mlk_expr.specs.Touches.{function_may, may_stand, subs_stand, trees_may, subs_may, links_may, choices_may}
use Rattle.mlk_expr.specs.Quiet.{quiet, quiet_subscript, quiet_link, quiet_choice}

trees_all : (es : List Expr) → trees_may NoTouches (trees_from (trees es)) ≡ list_all quiet es
trees_all [] = refl
trees_all (e ∷ es) = ap (λ b. quiet e && b) (trees_all es)

pub subs_all : (ss : List Subscript) → subs_may NoTouches (subs_from (sub_trees ss)) ≡ list_all quiet_subscript ss
subs_all [] = refl
subs_all (s ∷ ss) = ap (λ b. quiet_subscript s && b) (subs_all ss)

links_all : (ls : List (Op × Expr)) → links_may NoTouches (links_from (links ls)) ≡ list_all quiet_link ls
links_all [] = refl
links_all (l ∷ ls) = ap (λ b. quiet_link l && b) (links_all ls)

choices_all : (cs : List (Expr × Expr)) → choices_may NoTouches (choices_from (choices cs)) ≡ list_all quiet_choice cs
choices_all [] = refl
choices_all (c ∷ cs) = ap (λ b. quiet_choice c && b) (choices_all cs)

pub of_func : (f : Function) (v : Vec Expr Global) → quiet (rust.Func f v) ≡ (function_may NoTouches f && list_all quiet v.items)
of_func f v = ap (may_stand NoTouches) (tree_func f v) ∙ ap (λ b. function_may NoTouches f && b) (trees_all v.items)

pub of_local : (name : List ℕ) (v : Vec Subscript Global) → quiet (rust.Local name v) ≡ list_all quiet_subscript v.items
of_local name v = ap (may_stand NoTouches) (tree_local name v) ∙ subs_all v.items

pub subs_of_local : (name : List ℕ) (v : Vec Subscript Global) → subs_stand NoTouches (tree_of (rust.Local name v)) ≡ list_all quiet_subscript v.items
subs_of_local name v = ap (subs_stand NoTouches) (tree_local name v) ∙ subs_all v.items

pub subs_of_global : (column : ℕ) (name : List ℕ) (v : Vec Subscript Global) → subs_stand NoTouches (tree_of (rust.Global column name v)) ≡ list_all quiet_subscript v.items
subs_of_global column name v = ap (subs_stand NoTouches) (tree_global column name v) ∙ subs_all v.items

pub of_binary : (b : Box Expr Global) (v : Vec (Op × Expr) Global) → quiet (rust.Binary b v) ≡ (quiet b.value && list_all quiet_link v.items)
of_binary b v = ap (may_stand NoTouches) (tree_binary b v) ∙ ap (λ rest. quiet b.value && rest) (links_all v.items)

pub of_select : (v : Vec (Expr × Expr) Global) → quiet (rust.Select v) ≡ list_all quiet_choice v.items
of_select v = ap (may_stand NoTouches) (tree_select v) ∙ choices_all v.items
