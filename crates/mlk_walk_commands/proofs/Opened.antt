-- The walk of variables, by the kinds of their names.
use Rattle.std.proofs.Common.{◌≡◌, ◌∙◌, ap, ℕ, length, List, [], ◌∷◌, Vec, Global}
use Rattle.mlk_syntax.specs.declared.expr.Subscript.{Subscript}
use Rattle.mlk_syntax.specs.declared.expr.Expr.TheVariants as rust
use Rattle.mlk_syntax.specs.ExprTrees.{tree_of, sub_trees, subs_from, count_subs}
use Rattle.mlk_syntax.proofs.Variants.{tree_local, tree_global}
use Rattle.mlk_syntax.specs.Trees.{Named}
use Rattle.mlk_syntax.proofs.TreeLists.{counted}
use Rattle.mlk_names.specs.declared.reference.Access.TheVariants.{Reads, Writes}
use Rattle.mlk_names.specs.declared.reference.Extent.TheVariants as extent
use Rattle.mlk_walk_state.specs.declared.state.State.{State}
use Rattle.mlk_walk_state.specs.States.{without_last}
use Rattle.mlk_walk_exprs.specs.Walks.{Goes}
use Rattle.mlk_walk_exprs.specs.Spots.{Spot}
use Rattle.mlk_walk_exprs.specs.References.{touch, touch_last}
use Rattle.mlk_walk_commands.specs.Variables.{change_local}
use Rattle.mlk_walk_commands.specs.Arguments.{kill_row, read_row, merge_from, symbols_at, write_variable, read_part}

module _ (name : List ℕ) (v : Vec Subscript Global) where
  pub local_killed : (p : Spot) (column : ℕ) (s : State) → kill_row p (Named column (tree_of (rust.Local name v))) s
      ≡ change_local p column name (subs_from (sub_trees v.items)) (without_last (count_subs (subs_from (sub_trees v.items))) s)
  local_killed p column s = ap (λ t. kill_row p (Named column t) s) (tree_local name v)

  pub local_read : (p : Spot) (column : ℕ) (s : State) → read_row p (Named column (tree_of (rust.Local name v))) s
      ≡ change_local p column name (subs_from (sub_trees v.items)) (without_last (count_subs (subs_from (sub_trees v.items))) s)
  local_read p column s = ap (λ t. read_row p (Named column t) s) (tree_local name v)

  pub local_merged : (p : Spot) (column : ℕ) (s : State) → merge_from p (Named column (tree_of (rust.Local name v))) s
      ≡ Goes (without_last (count_subs (subs_from (sub_trees v.items))) s) ∷ []
  local_merged p column s = ap (λ t. merge_from p (Named column t) s) (tree_local name v)

  pub local_written : (p : Spot) (from column : ℕ) (s : State)
      → write_variable p from (Named column (tree_of (rust.Local name v))) s
      ≡ change_local p column name (subs_from (sub_trees v.items)) s
  local_written p from column s = ap (λ t. write_variable p from (Named column t) s) (tree_local name v)

module _ (caret : ℕ) (name : List ℕ) (v : Vec Subscript Global) where
  pub global_killed : (p : Spot) (column : ℕ) (s : State) → kill_row p (Named column (tree_of (rust.Global caret name v))) s
      ≡ touch_last p extent.Tree Writes caret name (count_subs (subs_from (sub_trees v.items))) s
  global_killed p column s = ap (λ t. kill_row p (Named column t) s) (tree_global caret name v)

  pub global_merged : (p : Spot) (column : ℕ) (s : State) → merge_from p (Named column (tree_of (rust.Global caret name v))) s
      ≡ touch_last p extent.Tree Reads caret name (count_subs (subs_from (sub_trees v.items))) s
  global_merged p column s = ap (λ t. merge_from p (Named column t) s) (tree_global caret name v)

  pub global_written : (p : Spot) (from column : ℕ) (s : State)
      → write_variable p from (Named column (tree_of (rust.Global caret name v))) s
      ≡ touch p extent.Node Writes caret name (symbols_at from (length v.items) s) s
  global_written p from column s = ap (λ t. write_variable p from (Named column t) s) (tree_global caret name v)
      ∙ ap (λ n. touch p extent.Node Writes caret name (symbols_at from n s) s) (counted v.items)

  pub global_part : (p : Spot) (from column : ℕ) (s : State)
      → read_part p from (Named column (tree_of (rust.Global caret name v))) s
      ≡ touch p extent.Node Reads caret name (symbols_at from (length v.items) s) s
  global_part p from column s = ap (λ t. read_part p from (Named column t) s) (tree_global caret name v)
      ∙ ap (λ n. touch p extent.Node Reads caret name (symbols_at from n s) s) (counted v.items)
