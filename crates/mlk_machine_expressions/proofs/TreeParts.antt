-- The tasks that replace the code's expressions, construct by construct.
use Rattle.std.proofs.Common.{◌≡◌, ◌∙◌, ap, sym, ℕ, Bool, true, false, refl, inl, inr, List, [], ◌∷◌, ◌++◌, Option, Some, None, Vec, Box, Global}
use Rattle.std.specs.Prelude.{option_map}
use Rattle.std.proofs.lemmas.Bool.{cases_Bool, false≢true}
use Rattle.mlk_text.specs.declared.operator.Op.{Op}
use Rattle.mlk_syntax.specs.declared.expr.Callee.{Callee}
use Rattle.mlk_syntax.specs.declared.expr.Function.{Function}
use Rattle.mlk_syntax.specs.declared.expr.Expr.{Expr}
use Rattle.mlk_syntax.specs.declared.expr.Actual.{Actual}
use Rattle.mlk_syntax.specs.declared.expr.Subscript.{Subscript}
use Rattle.mlk_syntax.specs.declared.expr.Expr.TheVariants as rust
use Rattle.mlk_syntax.specs.ExprTrees.{Tree, Lit, Free, LocalName, GlobalName, SpecialName, Prefixed, Chain, PatternText, Func, Selected, BareCall, CallOf, Trees, no_trees, tree, ActualTree, choices, choices_from, actual_trees, tree_of}
use Rattle.mlk_syntax.proofs.Variants.{tree_local, tree_global, tree_func, tree_call, tree_binary, tree_select, tree_bare}
use Rattle.mlk_syntax.proofs.TreeLists.{as_list_same}
use Rattle.mlk_names.specs.declared.reference.Extent.TheVariants.{Node}
use Rattle.mlk_machine_jobs.specs.Tasks.{Evaluate, Select, Call}
use Rattle.mlk_machine_jobs.specs.Expressions.{read_local, read_global, function_parts, of_global, takes_name, operation, each_actual, parts_of}
use Rattle.mlk_machine_expressions.specs.PartViews.{subs_of, args_of, links_of, called_with, values_with, asked, named_function, is_variable, extrinsic_parts}

pub local_parts : (name : List ℕ) (v : Vec Subscript Global)
    → parts_of (tree_of (rust.Local name v)) ≡ read_local name (subs_of v.items)
local_parts name v = ap parts_of (tree_local name v)

pub global_parts : (column : ℕ) (name : List ℕ) (v : Vec Subscript Global)
    → parts_of (tree_of (rust.Global column name v)) ≡ read_global name (subs_of v.items) Node
global_parts column name v = ap parts_of (tree_global column name v)

pub binary_parts : (b : Box Expr Global) (v : Vec (Op × Expr) Global)
    → parts_of (tree_of (rust.Binary b v)) ≡ Evaluate (tree_of b.value) ∷ operation (links_of v.items)
binary_parts b v = ap parts_of (tree_binary b v)

pub func_parts : (f : Function) (v : Vec Expr Global)
    → parts_of (tree_of (rust.Func f v)) ≡ function_parts f (takes_name f) (args_of v.items)
func_parts f v = ap parts_of (tree_func f v)

pub select_parts : (v : Vec (Expr × Expr) Global)
    → parts_of (tree_of (rust.Select v)) ≡ Select (choices_from (choices v.items)) ∷ []
select_parts v = ap parts_of (tree_select v)

pub bare_parts : (column : ℕ) (callee : Box Callee Global)
    → parts_of (tree_of (rust.Call column callee None)) ≡ Call true callee.value [] ∷ []
bare_parts column callee = ap parts_of (tree_bare column callee)

pub call_parts : (column : ℕ) (callee : Box Callee Global) (v : Vec Actual Global)
    → parts_of (tree_of (rust.Call column callee (Some v))) ≡ called_with callee.value (actual_trees v.items)
call_parts column callee v =
    ap parts_of (tree_call column callee v)
    ∙ ap (λ (given : List ActualTree). each_actual given ++ Call true callee.value given ∷ []) (as_list_same (actual_trees v.items))

pub no_arguments : (f : Function) (b : Bool) → function_parts f b no_trees ≡ values_with no_trees
no_arguments f true = refl
no_arguments f false = refl

values_only : (f : Function) (args : Trees) → function_parts f false args ≡ values_with args
values_only f args = refl

pub no_name : (f : Function) (args : Trees) → None ≡ named_function f
    → function_parts f (takes_name f) args ≡ values_with args
no_name f args h = elim (cases_Bool (takes_name f)) [
  | inl e ↦ let s : None ≡ Some f = rw e at h in absurd (cc)
  | inr e ↦ rw e (values_only f args)
]

pub of_global_first : (f g : Function) (column : ℕ) (name : List ℕ) (v : Vec Subscript Global) (more : Trees)
    → Some g ≡ named_function f
    → function_parts f (takes_name f) (tree (tree_of (rust.Global column name v)) more)
    ≡ of_global g name (subs_of v.items) more
of_global_first f g column name v more h = elim (cases_Bool (takes_name f)) [
  | inl e ↦
      let s : Some g ≡ Some f = rw e at h in
      let i : g ≡ f = cc in
      rw (e, tree_global column name v) (ap (λ z. of_global z name (subs_of v.items) more) (sym i))
  | inr e ↦ let s : Some g ≡ None = rw e at h in absurd (cc)
]

pub of_local_first : (f g : Function) (name : List ℕ) (v : Vec Subscript Global) (more : Trees)
    → Some g ≡ named_function f
    → function_parts f (takes_name f) (tree (tree_of (rust.Local name v)) more) ≡ asked (subs_of v.items) more
of_local_first f g name v more h = elim (cases_Bool (takes_name f)) [
  | inl e ↦ rw (e, tree_local name v) refl
  | inr e ↦ let s : Some g ≡ None = rw e at h in absurd (cc)
]

other_first : (f : Function) (b : Bool) (t : Tree) (more : Trees) → is_variable t ≡ false
    → function_parts f b (tree t more) ≡ values_with (tree t more)
other_first f false t more h = refl
other_first f true (Lit value) more h = refl
other_first f true Free more h = refl
other_first f true (LocalName name subs) more h = absurd (false≢true (sym h))
other_first f true (GlobalName column name subs) more h = absurd (false≢true (sym h))
other_first f true (SpecialName s) more h = refl
other_first f true (Prefixed op t) more h = refl
other_first f true (Chain t rest) more h = refl
other_first f true (PatternText text) more h = refl
other_first f true (Func g args) more h = refl
other_first f true (Selected cs) more h = refl
other_first f true (BareCall column callee) more h = refl
other_first f true (CallOf column callee given) more h = refl

pub of_other : (f : Function) (t : Tree) (more : Trees) → is_variable t ≡ false
    → function_parts f (takes_name f) (tree t more) ≡ values_with (tree t more)
of_other f t more h = other_first f (takes_name f) t more h

pub extrinsic_call : (column : ℕ) (callee : Box Callee Global) (o : Option (Vec Actual Global))
    → parts_of (tree_of (rust.Call column callee o))
    ≡ extrinsic_parts callee.value (option_map (λ (v : Vec Actual Global). actual_trees v.items) o)
extrinsic_call column callee None = bare_parts column callee
extrinsic_call column callee (Some v) = call_parts column callee v
