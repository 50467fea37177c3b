-- The lock names of variables, by the kinds of their names.
use Rattle.std.proofs.Common.{◌≡◌, ap, ℕ, Bool, List, Vec, Global}
use Rattle.mlk_text.specs.declared.root.Root.TheVariants as root
use Rattle.mlk_syntax.specs.declared.expr.Subscript.{Subscript}
use Rattle.mlk_syntax.specs.declared.expr.Expr.TheVariants as rust
use Rattle.mlk_syntax.specs.ExprTrees.{tree_of, sub_trees, subs_from, LocalName}
use Rattle.mlk_syntax.proofs.Variants.{tree_local, tree_global}
use Rattle.mlk_walk_commands.specs.Locks.{root_of, unknown_code}

module _ (name : List ℕ) (v : Vec Subscript Global) where
  pub local_root : root_of (tree_of (rust.Local name v)) ≡ root.Local name
  local_root = ap root_of (tree_local name v)

  pub local_unknown : (shared : List ℕ → Bool) → unknown_code shared (tree_of (rust.Local name v))
      ≡ unknown_code shared (LocalName name (subs_from (sub_trees v.items)))
  local_unknown shared = ap (unknown_code shared) (tree_local name v)

module _ (caret : ℕ) (name : List ℕ) (v : Vec Subscript Global) where
  pub global_root : root_of (tree_of (rust.Global caret name v)) ≡ root.Global name
  global_root = ap root_of (tree_global caret name v)
