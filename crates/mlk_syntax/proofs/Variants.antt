-- The trees of the code's values, taken apart by one level.
use Rattle.std.proofs.Common.{◌≡◌, ℕ, List, Some, None, Vec, Box, Global, sym, ap, ◌∙◌}
use Rattle.mlk_text.specs.declared.operator.Op.{Op}
use Rattle.mlk_text.specs.declared.operator.UnaryOp.{UnaryOp}
use Rattle.mlk_syntax.specs.declared.expr.Callee.{Callee}
use Rattle.mlk_syntax.specs.declared.expr.Function.{Function}
use Rattle.mlk_syntax.specs.declared.expr.Expr.{Expr, fold-roll-Expr}
use Rattle.mlk_syntax.specs.declared.expr.Actual.{Actual}
use Rattle.mlk_syntax.specs.declared.expr.Subscript.{Subscript}
use Rattle.mlk_syntax.specs.declared.expr.Actual.TheOpen as open'
use Rattle.mlk_syntax.specs.declared.expr.Expr.TheVariants as rust
use Rattle.mlk_syntax.specs.declared.expr.Expr.TheVariants.{rolls-Lit, rolls-Free, rolls-Local, rolls-Global, rolls-Unary, rolls-Binary, rolls-Func, rolls-Select, rolls-Call}
use Rattle.mlk_syntax.specs.ExprTrees.{Tree, ActualTree, Lit, Free, LocalName, GlobalName, Prefixed, Chain, Func, Selected, BareCall, CallOf}
use Rattle.mlk_syntax.specs.ExprTrees.{subs_from, trees_from, links_from, choices_from, actuals_from, actual_step, expr_step, subscript_step}
use Rattle.mlk_syntax.specs.ExprTrees.{tree_of, sub_trees, trees, links, choices, actual_trees}

pub tree_lit : (value : List ℕ) → tree_of (rust.Lit value) ≡ Lit value
tree_lit value = ap tree_of (sym (rolls-Lit value)) ∙ fold-roll-Expr ActualTree Tree (ℕ × Tree) actual_step expr_step subscript_step (open'.Lit value)

pub tree_free : tree_of rust.Free ≡ Free
tree_free = ap tree_of (sym rolls-Free) ∙ fold-roll-Expr ActualTree Tree (ℕ × Tree) actual_step expr_step subscript_step open'.Free

pub tree_local : (name : List ℕ) (subs : Vec Subscript Global) → tree_of (rust.Local name subs) ≡ LocalName name (subs_from (sub_trees subs.items))
tree_local name subs = ap tree_of (sym (rolls-Local name subs)) ∙ fold-roll-Expr ActualTree Tree (ℕ × Tree) actual_step expr_step subscript_step (open'.Local name subs)

pub tree_global : (column : ℕ) (name : List ℕ) (subs : Vec Subscript Global) → tree_of (rust.Global column name subs) ≡ GlobalName column name (subs_from (sub_trees subs.items))
tree_global column name subs = ap tree_of (sym (rolls-Global column name subs)) ∙ fold-roll-Expr ActualTree Tree (ℕ × Tree) actual_step expr_step subscript_step (open'.Global column name subs)

pub tree_func : (f : Function) (args : Vec Expr Global) → tree_of (rust.Func f args) ≡ Func f (trees_from (trees args.items))
tree_func f args = ap tree_of (sym (rolls-Func f args)) ∙ fold-roll-Expr ActualTree Tree (ℕ × Tree) actual_step expr_step subscript_step (open'.Func f args)

pub tree_unary : (op : UnaryOp) (b : Box Expr Global) → tree_of (rust.Unary op b) ≡ Prefixed op (tree_of b.value)
tree_unary op b = ap tree_of (sym (rolls-Unary op b))
    ∙ fold-roll-Expr ActualTree Tree (ℕ × Tree) actual_step expr_step subscript_step (open'.Unary op b)

pub tree_binary : (b : Box Expr Global) (v : Vec (Op × Expr) Global)
    → tree_of (rust.Binary b v) ≡ Chain (tree_of b.value) (links_from (links v.items))
tree_binary b v = ap tree_of (sym (rolls-Binary b v))
    ∙ fold-roll-Expr ActualTree Tree (ℕ × Tree) actual_step expr_step subscript_step (open'.Binary b v)

pub tree_select : (v : Vec (Expr × Expr) Global) → tree_of (rust.Select v) ≡ Selected (choices_from (choices v.items))
tree_select v = ap tree_of (sym (rolls-Select v))
    ∙ fold-roll-Expr ActualTree Tree (ℕ × Tree) actual_step expr_step subscript_step (open'.Select v)

pub tree_bare : (column : ℕ) (callee : Box Callee Global) → tree_of (rust.Call column callee None) ≡ BareCall column callee.value
tree_bare column callee = ap tree_of (sym (rolls-Call column callee None))
    ∙ fold-roll-Expr ActualTree Tree (ℕ × Tree) actual_step expr_step subscript_step (open'.Call column callee None)

pub tree_call : (column : ℕ) (callee : Box Callee Global) (given : Vec Actual Global) → tree_of (rust.Call column callee (Some given)) ≡ CallOf column callee.value (actuals_from (actual_trees given.items))
tree_call column callee given = ap tree_of (sym (rolls-Call column callee (Some given))) ∙ fold-roll-Expr ActualTree Tree (ℕ × Tree) actual_step expr_step subscript_step (open'.Call column callee (Some given))
