-- The subscripts of variables, by the kinds of their names.
use Rattle.std.proofs.Common.{◌≡◌, ap, ℕ, List, Vec, Global}
use Rattle.mlk_syntax.specs.declared.expr.Subscript.{Subscript}
use Rattle.mlk_syntax.specs.declared.expr.Expr.TheVariants as rust
use Rattle.mlk_syntax.specs.ExprTrees.{tree_of, sub_trees, subs_from}
use Rattle.mlk_syntax.proofs.Variants.{tree_local, tree_global}
use Rattle.mlk_walk_commands.specs.Variables.{subs_of}

module _ (name : List ℕ) (v : Vec Subscript Global) where
  pub local_subs : subs_of (tree_of (rust.Local name v)) ≡ subs_from (sub_trees v.items)
  local_subs = ap subs_of (tree_local name v)

module _ (caret : ℕ) (name : List ℕ) (v : Vec Subscript Global) where
  pub global_subs : subs_of (tree_of (rust.Global caret name v)) ≡ subs_from (sub_trees v.items)
  global_subs = ap subs_of (tree_global caret name v)
