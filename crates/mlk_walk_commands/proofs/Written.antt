-- What is assigned to, in every state.
use Rattle.std.proofs.Common.{◌≡◌, ◌∙◌, ap, ℕ, length, List, Vec, Global}
use Rattle.mlk_syntax.specs.declared.expr.Subscript.{Subscript}
use Rattle.mlk_syntax.specs.declared.expr.Expr.TheVariants as rust
use Rattle.mlk_syntax.specs.ExprTrees.{tree_of, sub_trees, subs_from}
use Rattle.mlk_syntax.specs.Trees.{Named}
use Rattle.mlk_syntax.proofs.Variants.{tree_local, tree_global}
use Rattle.mlk_syntax.proofs.TreeLists.{counted}
use Rattle.mlk_names.specs.declared.reference.Access.TheVariants.{Writes}
use Rattle.mlk_names.specs.declared.reference.Extent.TheVariants as extent
use Rattle.mlk_walk_exprs.specs.declared.walk.Walk.{Walk}
use Rattle.mlk_walk_exprs.specs.Walks.{each}
use Rattle.mlk_walk_exprs.specs.Spots.{Spot}
use Rattle.mlk_walk_exprs.specs.References.{touch}
use Rattle.mlk_walk_commands.specs.Variables.{change_local}
use Rattle.mlk_walk_commands.specs.Arguments.{symbols_at, write_variable}

module _ (p : Spot) (from column : ℕ) (w : Walk) where
  pub local_written : (name : List ℕ) (v : Vec Subscript Global)
      → each (write_variable p from (Named column (tree_of (rust.Local name v)))) w
      ≡ each (change_local p column name (subs_from (sub_trees v.items))) w
  local_written name v = ap (λ t. each (write_variable p from (Named column t)) w) (tree_local name v)

  pub global_written : (caret : ℕ) (name : List ℕ) (v : Vec Subscript Global)
      → each (write_variable p from (Named column (tree_of (rust.Global caret name v)))) w
      ≡ each (λ s. touch p extent.Node Writes caret name (symbols_at from (length v.items) s) s) w
  global_written caret name v = ap (λ t. each (write_variable p from (Named column t)) w) (tree_global caret name v)
      ∙ ap (λ n. each (λ s. touch p extent.Node Writes caret name (symbols_at from n s) s) w) (counted v.items)
