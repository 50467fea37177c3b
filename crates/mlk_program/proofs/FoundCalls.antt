-- The calls of lists of expressions, from the code's lists to those of trees.
use Rattle.std.proofs.Common.{◌≡◌, refl, subst, ap, ◌∙◌, sym, ℕ, List, [], ◌∷◌, ◌++◌, Option, Some, Vec, Box, Global, append_assoc}
use Rattle.std.specs.Prelude.{map, flat_map}
use Rattle.mlk_text.specs.declared.operator.Op.{Op}
use Rattle.mlk_syntax.specs.declared.expr.Expr.{Expr}
use Rattle.mlk_syntax.specs.declared.expr.Actual.{Actual}
use Rattle.mlk_syntax.specs.declared.expr.Subscript.{Subscript}
use Rattle.mlk_syntax.specs.ExprTrees.{trees, actual_trees, sub_trees, links, choices}
use Rattle.mlk_syntax.specs.ExprTrees.{trees_from, actuals_from, subs_from, links_from, choices_from}
use Rattle.mlk_syntax.specs.declared.expr.Callee.{Callee}
use Rattle.mlk_syntax.specs.declared.expr.Function.{Function}
use Rattle.mlk_syntax.specs.declared.expr.Expr.TheVariants as rust
use Rattle.mlk_syntax.proofs.Variants.{tree_func, tree_local, tree_global, tree_call, tree_binary, tree_select}
use Rattle.mlk_syntax.specs.Trees.{CallTree, Called}
use Rattle.mlk_syntax.proofs.TreeLists.{as_list_same}
use Rattle.mlk_program.specs.Calls.{in_tree, in_trees, in_subs, in_links, in_choices, in_actuals}
use Rattle.mlk_program.specs.declared.call.CallSite.{CallSite}
use Rattle.mlk_program.specs.Found.{Finds, site_of, of_expr, of_subscript, of_link, of_choice, of_actual, given_of}

pub trees_flat : (es : List Expr) → in_trees (trees_from (trees es)) ≡ flat_map of_expr es
trees_flat [] = refl
trees_flat (e ∷ es) = ap (λ more. of_expr e ++ more) (trees_flat es)

pub subs_flat : (ss : List Subscript) → in_subs (subs_from (sub_trees ss)) ≡ flat_map of_subscript ss
subs_flat [] = refl
subs_flat (s ∷ ss) = ap (λ more. of_subscript s ++ more) (subs_flat ss)

pub links_flat : (ls : List (Op × Expr)) → in_links (links_from (links ls)) ≡ flat_map of_link ls
links_flat [] = refl
links_flat (l ∷ ls) = ap (λ more. of_link l ++ more) (links_flat ls)

pub choices_flat : (cs : List (Expr × Expr)) → in_choices (choices_from (choices cs)) ≡ flat_map of_choice cs
choices_flat [] = refl
choices_flat (c ∷ cs) = ap (λ more. of_expr c.0 ++ (of_expr c.1 ++ more)) (choices_flat cs)
    ∙ sym (append_assoc (of_expr c.0) (of_expr c.1) (flat_map of_choice cs))

pub actuals_flat : (given : List Actual) → in_actuals (actuals_from (actual_trees given)) ≡ flat_map of_actual given
actuals_flat [] = refl
actuals_flat (a ∷ given) = ap (λ more. of_actual a ++ more) (actuals_flat given)

-- The calls in the parts of an expression of the code.
pub of_func : (f : Function) (v : Vec Expr Global) → of_expr (rust.Func f v) ≡ flat_map of_expr v.items
of_func f v = ap in_tree (tree_func f v) ∙ trees_flat v.items

pub of_local : (name : List ℕ) (v : Vec Subscript Global) → of_expr (rust.Local name v) ≡ flat_map of_subscript v.items
of_local name v = ap in_tree (tree_local name v) ∙ subs_flat v.items

pub of_global : (column : ℕ) (name : List ℕ) (v : Vec Subscript Global)
    → of_expr (rust.Global column name v) ≡ flat_map of_subscript v.items
of_global column name v = ap in_tree (tree_global column name v) ∙ subs_flat v.items

pub of_binary : (b : Box Expr Global) (v : Vec (Op × Expr) Global)
    → of_expr (rust.Binary b v) ≡ of_expr b.value ++ flat_map of_link v.items
of_binary b v = ap in_tree (tree_binary b v) ∙ ap (λ more. of_expr b.value ++ more) (links_flat v.items)

pub of_select : (v : Vec (Expr × Expr) Global) → of_expr (rust.Select v) ≡ flat_map of_choice v.items
of_select v = ap in_tree (tree_select v) ∙ choices_flat v.items

pub of_list : (column : ℕ) (callee : Box Callee Global) (v : Vec Actual Global) → of_expr (rust.Call column callee (Some v))
    ≡ Called column callee.value (Some (actual_trees v.items)) ∷ flat_map of_actual v.items
of_list column callee v = ap in_tree (tree_call column callee v)
    ∙ ap (λ given. Called column callee.value (Some given) ∷ in_actuals (actuals_from (actual_trees v.items)))
    (as_list_same (actual_trees v.items))
    ∙ ap (λ more. Called column callee.value (Some (actual_trees v.items)) ∷ more) (actuals_flat v.items)

-- first the ones are added, then the others
pub finds_both : (a b : List CallTree) (old mid new : List CallSite) → Finds a old mid → Finds b mid new
    → Finds (a ++ b) old new
finds_both a b old mid new h k = k ∙ ap (λ s. s ++ b) h ∙ append_assoc (map site_of old) a b

-- first a call, then those of its actuals
pub finds_call : (e : Expr) (column : ℕ) (callee : Box Callee Global) (o : Option (Vec Actual Global)) (v : Vec Actual Global)
    (old mid new : List CallSite) → e ≡ rust.Call column callee o → o ≡ Some v
    → Finds (Called column callee.value (given_of o) ∷ []) old mid → Finds (flat_map of_actual v.items) mid new
    → Finds (of_expr e) old new
finds_call e column callee o v old mid new is some h k =
    subst (λ calls. Finds calls old new) (sym (ap of_expr (is ∙ ap (rust.Call column callee) some) ∙ of_list column callee v))
    (finds_both (Called column callee.value (Some (actual_trees v.items)) ∷ []) (flat_map of_actual v.items) old mid new
    (subst (λ p. Finds (Called column callee.value (given_of p) ∷ []) old mid) some h) k)

-- the calls of the elements of lists
pub calls_of_map : {A B : Type 0} (calls : B → List CallTree) (view : A → B) (xs : List A)
    → flat_map calls (map view xs) ≡ flat_map (λ x. calls (view x)) xs
calls_of_map calls view [] = refl
calls_of_map calls view (x ∷ xs) = ap (λ more. calls (view x) ++ more) (calls_of_map calls view xs)

pub finds_all : {A B : Type 0} (calls : B → List CallTree) (view : A → B) (xs : List A) (old new : List CallSite)
    → Finds (flat_map (λ x. calls (view x)) xs) old new → Finds (flat_map calls (map view xs)) old new
finds_all calls view xs old new h = h ∙ ap (λ c. map site_of old ++ c) (sym (calls_of_map calls view xs))

-- those of a list, then others; others, then those of a list
pub finds_all_then : {A B : Type 0} (calls : B → List CallTree) (view : A → B) (xs : List A) (b : List CallTree)
    (old mid new : List CallSite) → Finds (flat_map (λ x. calls (view x)) xs) old mid → Finds b mid new
    → Finds (flat_map calls (map view xs) ++ b) old new
finds_all_then calls view xs b old mid new h k =
    finds_both (flat_map calls (map view xs)) b old mid new (finds_all calls view xs old mid h) k

pub finds_then_all : {A B : Type 0} (calls : B → List CallTree) (view : A → B) (xs : List A) (a : List CallTree)
    (old mid new : List CallSite) → Finds a old mid → Finds (flat_map (λ x. calls (view x)) xs) mid new
    → Finds (a ++ flat_map calls (map view xs)) old new
finds_then_all calls view xs a old mid new h k =
    finds_both a (flat_map calls (map view xs)) old mid new h (finds_all calls view xs mid new k)
