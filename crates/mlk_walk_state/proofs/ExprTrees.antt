-- The trees of the code's expressions.
use Rattle.std.proofs.Common.{◌≡◌, ap, ℕ, List, Vec, Box, Global}
use Rattle.mlk_text.specs.declared.operator.Op.{Op}
use Rattle.mlk_syntax.specs.declared.expr.Expr.{Expr}
use Rattle.mlk_syntax.specs.declared.expr.Subscript.{Subscript}
use Rattle.mlk_syntax.specs.declared.expr.Expr.TheVariants as rust
use Rattle.mlk_syntax.specs.ExprTrees.{tree_of, sub_trees, subs_from, links, links_from}
use Rattle.mlk_syntax.proofs.Variants.{tree_local, tree_binary}
use Rattle.mlk_walk_state.specs.declared.state.State.{State}
use Rattle.mlk_walk_state.specs.Scope.{Scope}
use Rattle.mlk_walk_state.specs.Symbols.{symbol_in, chain_in, local_symbol}

module _ (sc : Scope) (s : State) where
  pub local_in : (name : List ℕ) (v : Vec Subscript Global) → symbol_in sc (tree_of (rust.Local name v)) s
      ≡ local_symbol (sc.is_shared s.case.own name) name (subs_from (sub_trees v.items))
  local_in name v = ap (λ t. symbol_in sc t s) (tree_local name v)

  pub binary_in : (b : Box Expr Global) (v : Vec (Op × Expr) Global) → symbol_in sc (tree_of (rust.Binary b v)) s
      ≡ chain_in sc s (symbol_in sc (tree_of b.value) s) (links_from (links v.items))
  binary_in b v = ap (λ t. symbol_in sc t s) (tree_binary b v)
