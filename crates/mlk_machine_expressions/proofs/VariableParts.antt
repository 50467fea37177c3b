-- The subscripts of variables, and the names of locals without subscripts.
use Rattle.std.proofs.Common.{◌≡◌, ap, ℕ, false, refl, sym, List, Some, None, Vec, Global}
use Rattle.std.proofs.lemmas.Bool.{false≢true}
use Rattle.mlk_syntax.specs.declared.expr.Subscript.{Subscript}
use Rattle.mlk_syntax.specs.declared.expr.Expr.TheVariants as rust
use Rattle.mlk_syntax.specs.ExprTrees.{Tree, Lit, Free, LocalName, GlobalName, SpecialName, Prefixed, Chain, PatternText, Func, Selected, BareCall, CallOf, Subs, no_subs, sub, tree_of}
use Rattle.mlk_syntax.proofs.Variants.{tree_local, tree_global}
use Rattle.mlk_syntax.specs.Trees.{Named}
use Rattle.mlk_machine_jobs.specs.Commands.{subs_in}
use Rattle.mlk_machine_expressions.specs.PartViews.{subs_of, is_variable, bare_name}

pub local_subs : (column : ℕ) (name : List ℕ) (v : Vec Subscript Global)
    → subs_in (Named column (tree_of (rust.Local name v))) ≡ subs_of v.items
local_subs column name v = ap (λ (t : Tree). subs_in (Named column t)) (tree_local name v)

pub global_subs : (column caret : ℕ) (name : List ℕ) (v : Vec Subscript Global)
    → subs_in (Named column (tree_of (rust.Global caret name v))) ≡ subs_of v.items
global_subs column caret name v = ap (λ (t : Tree). subs_in (Named column t)) (tree_global caret name v)

pub other_subs : (column : ℕ) (t : Tree) → is_variable t ≡ false → subs_in (Named column t) ≡ no_subs
other_subs column (Lit value) h = refl
other_subs column Free h = refl
other_subs column (LocalName name subs) h = absurd (false≢true (sym h))
other_subs column (GlobalName caret name subs) h = absurd (false≢true (sym h))
other_subs column (SpecialName s) h = refl
other_subs column (Prefixed op t) h = refl
other_subs column (Chain t rest) h = refl
other_subs column (PatternText text) h = refl
other_subs column (Func f args) h = refl
other_subs column (Selected cs) h = refl
other_subs column (BareCall caret callee) h = refl
other_subs column (CallOf caret callee given) h = refl

pub bare_local : (column : ℕ) (name : List ℕ) (v : Vec Subscript Global) → subs_of v.items ≡ no_subs
    → Some name ≡ bare_name (Named column (tree_of (rust.Local name v)))
bare_local column name v h = rw (tree_local name v, h) refl

pub no_bare_local : (column c : ℕ) (name : List ℕ) (v : Vec Subscript Global) (t : Tree) (rest : Subs)
    → subs_of v.items ≡ sub c t rest → None ≡ bare_name (Named column (tree_of (rust.Local name v)))
no_bare_local column c name v t rest h = rw (tree_local name v, h) refl
