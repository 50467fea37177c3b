-- Syntax trees, without their representation in memory. This project's own.
use Rattle.std.specs.Prelude.{ℕ, suc, List, [], ◌∷◌, map, Option, Some, None, option_map}
use Rattle.mlk_text.specs.declared.operator.Op.{Op}
use Rattle.mlk_text.specs.declared.operator.UnaryOp.{UnaryOp}
use Rattle.mlk_syntax.specs.declared.expr.Special.{Special}
use Rattle.mlk_syntax.specs.declared.expr.Function.{Function}
use Rattle.mlk_syntax.specs.declared.expr.Callee.{Callee}
use Rattle.mlk_syntax.specs.declared.expr.Expr.{Expr, fold-Expr}
use Rattle.mlk_syntax.specs.declared.expr.Actual.{Actual, fold-Actual}
use Rattle.mlk_syntax.specs.declared.expr.Subscript.{Subscript, fold-Subscript}
use Rattle.mlk_syntax.specs.declared.expr.Actual.TheOpen as open'
use Rattle.mlk_syntax.specs.declared.expr.Actual.TheOpen.{Expr-F, Actual-F, Subscript-F}

mutual
  pub data Tree : Type 0 where
    Lit : (value : List ℕ) → Tree
    Free : Tree
    LocalName : (name : List ℕ) → (subs : Subs) → Tree
    GlobalName : (column : ℕ) → (name : List ℕ) → (subs : Subs) → Tree
    SpecialName : (special : Special) → Tree
    Prefixed : (op : UnaryOp) → (operand : Tree) → Tree
    Chain : (first : Tree) → (rest : Links) → Tree
    PatternText : (text : List ℕ) → Tree
    Func : (function : Function) → (args : Trees) → Tree
    Selected : (choices : Choices) → Tree
    BareCall : (column : ℕ) → (callee : Callee) → Tree
    CallOf : (column : ℕ) → (callee : Callee) → (actuals : Actuals) → Tree

  pub data Trees : Type 0 where
    no_trees : Trees
    tree : (t : Tree) → (ts : Trees) → Trees

  pub data Subs : Type 0 where
    no_subs : Subs
    sub : (column : ℕ) → (t : Tree) → (rest : Subs) → Subs

  pub data Links : Type 0 where
    no_links : Links
    link : (op : Op) → (t : Tree) → (rest : Links) → Links

  pub data Choices : Type 0 where
    no_choices : Choices
    choice : (condition value : Tree) → (rest : Choices) → Choices

  pub data ActualTree : Type 0 where
    Given : (t : Tree) → ActualTree
    ByRef : (column : ℕ) → (name : List ℕ) → ActualTree
    Missing : ActualTree

  pub data Actuals : Type 0 where
    no_actuals : Actuals
    actual : (a : ActualTree) → (rest : Actuals) → Actuals

-- the number of subscripts, and an actual list as a list
abbrev pub count_subs : Subs → ℕ
count_subs no_subs = 0
count_subs (sub column t rest) = suc (count_subs rest)

abbrev pub as_list : Actuals → List ActualTree
as_list no_actuals = []
as_list (actual a rest) = a ∷ as_list rest

abbrev pub trees_from : List Tree → Trees
trees_from [] = no_trees
trees_from (t ∷ ts) = tree t (trees_from ts)

abbrev pub subs_from : List (ℕ × Tree) → Subs
subs_from [] = no_subs
subs_from (s ∷ ss) = sub s.0 s.1 (subs_from ss)

abbrev pub links_from : List (Op × Tree) → Links
links_from [] = no_links
links_from (l ∷ ls) = link l.0 l.1 (links_from ls)

abbrev pub choices_from : List (Tree × Tree) → Choices
choices_from [] = no_choices
choices_from (c ∷ cs) = choice c.0 c.1 (choices_from cs)

abbrev pub actuals_from : List ActualTree → Actuals
actuals_from [] = no_actuals
actuals_from (a ∷ more) = actual a (actuals_from more)

-- The trees of the code's values: one level, whose parts are trees already,
abbrev pub call_from : ℕ → Callee → Option (List ActualTree) → Tree
call_from column callee None = BareCall column callee
call_from column callee (Some given) = CallOf column callee (actuals_from given)

abbrev pub expr_step : Expr-F ActualTree Tree (ℕ × Tree) → Tree
expr_step (open'.Lit value) = Lit value
expr_step open'.Free = Free
expr_step (open'.Local name v) = LocalName name (subs_from v.items)
expr_step (open'.Global column name v) = GlobalName column name (subs_from v.items)
expr_step (open'.Special s) = SpecialName s
expr_step (open'.Unary op b) = Prefixed op b.value
expr_step (open'.Binary b v) = Chain b.value (links_from v.items)
expr_step (open'.Pattern text) = PatternText text
expr_step (open'.Func f v) = Func f (trees_from v.items)
expr_step (open'.Select v) = Selected (choices_from v.items)
expr_step (open'.Call column callee o) = call_from column callee.value (option_map (λ v. v.items) o)

abbrev pub actual_step : Actual-F ActualTree Tree (ℕ × Tree) → ActualTree
actual_step (open'.Value t) = Given t
actual_step (open'.ByRef column name) = ByRef column name
actual_step open'.Missing = Missing

abbrev pub subscript_step : Subscript-F ActualTree Tree (ℕ × Tree) → ℕ × Tree
subscript_step s = (s.column, s.value)

-- and of whole values
abbrev pub tree_of : Expr → Tree
tree_of = fold-Expr ActualTree Tree (ℕ × Tree) actual_step expr_step subscript_step

abbrev pub actual_of : Actual → ActualTree
actual_of = fold-Actual ActualTree Tree (ℕ × Tree) actual_step expr_step subscript_step

abbrev pub sub_of : Subscript → ℕ × Tree
sub_of = fold-Subscript ActualTree Tree (ℕ × Tree) actual_step expr_step subscript_step

abbrev pub trees : List Expr → List Tree
trees es = map tree_of es

abbrev pub actual_trees : List Actual → List ActualTree
actual_trees given = map actual_of given

abbrev pub sub_trees : List Subscript → List (ℕ × Tree)
sub_trees ss = map sub_of ss

abbrev pub link_of : Op × Expr → Op × Tree
link_of l = (l.0, tree_of l.1)

abbrev pub links : List (Op × Expr) → List (Op × Tree)
links ls = map link_of ls

abbrev pub choice_of : Expr × Expr → Tree × Tree
choice_of c = (tree_of c.0, tree_of c.1)

abbrev pub choices : List (Expr × Expr) → List (Tree × Tree)
choices cs = map choice_of cs
