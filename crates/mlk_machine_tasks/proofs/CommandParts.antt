-- The tasks of variables, by the kinds of their names.
use Rattle.std.proofs.Common.{◌≡◌, ℕ, false, refl, sym, List, [], ◌∷◌, Vec, Global}
use Rattle.std.proofs.lemmas.Bool.{false≢true}
use Rattle.mlk_syntax.specs.declared.expr.Subscript.{Subscript}
use Rattle.mlk_syntax.specs.declared.expr.Expr.TheVariants as rust
use Rattle.mlk_syntax.specs.ExprTrees.{Tree, Lit, Free, LocalName, GlobalName, SpecialName, Prefixed, Chain, PatternText, Func, Selected, BareCall, CallOf, Subs, no_subs, sub, tree_of, count_subs}
use Rattle.mlk_syntax.proofs.Variants.{tree_local, tree_global}
use Rattle.mlk_syntax.specs.Trees.{VariableTree, Named}
use Rattle.mlk_names.specs.declared.reference.Extent.TheVariants as extent
use Rattle.mlk_names.specs.declared.reference.Access.TheVariants.{Writes}
use Rattle.mlk_machine_jobs.specs.Bindings.{Only}
use Rattle.mlk_machine_jobs.specs.Tasks.{KillNames, Drop, FormReference}
use Rattle.mlk_machine_jobs.specs.Commands.{store_last, kill_variable}
use Rattle.mlk_machine_expressions.specs.PartViews.{subs_of, is_variable, bare_name}
use Rattle.mlk_machine_tasks.specs.ArgumentViews.{stored_in}

pub last_stored : (v : VariableTree) → store_last v ≡ stored_in (bare_name v)
last_stored (Named column (Lit value)) = refl
last_stored (Named column Free) = refl
last_stored (Named column (LocalName name no_subs)) = refl
last_stored (Named column (LocalName name (sub c t rest))) = refl
last_stored (Named column (GlobalName caret name subs)) = refl
last_stored (Named column (SpecialName s)) = refl
last_stored (Named column (Prefixed op t)) = refl
last_stored (Named column (Chain t rest)) = refl
last_stored (Named column (PatternText text)) = refl
last_stored (Named column (Func f args)) = refl
last_stored (Named column (Selected cs)) = refl
last_stored (Named column (BareCall caret callee)) = refl
last_stored (Named column (CallOf caret callee given)) = refl

pub kill_bare : (column : ℕ) (name : List ℕ) (v : Vec Subscript Global) → subs_of v.items ≡ no_subs
    → kill_variable (Named column (tree_of (rust.Local name v))) ≡ KillNames (Only name) ∷ []
kill_bare column name v h = rw (tree_local name v, h) refl

pub kill_with_subs : (column c : ℕ) (name : List ℕ) (v : Vec Subscript Global) (t : Tree) (rest : Subs)
    → subs_of v.items ≡ sub c t rest
    → kill_variable (Named column (tree_of (rust.Local name v))) ≡ Drop (count_subs (subs_of v.items)) ∷ []
kill_with_subs column c name v t rest h = rw (tree_local name v, h) refl

pub kill_global : (column caret : ℕ) (name : List ℕ) (v : Vec Subscript Global)
    → kill_variable (Named column (tree_of (rust.Global caret name v)))
    ≡ FormReference name (count_subs (subs_of v.items)) extent.Tree Writes ∷ []
kill_global column caret name v = rw (tree_global caret name v) refl

pub kill_other : (column : ℕ) (t : Tree) → is_variable t ≡ false → kill_variable (Named column t) ≡ Drop 0 ∷ []
kill_other column (Lit value) h = refl
kill_other column Free h = refl
kill_other column (LocalName name subs) h = absurd (false≢true (sym h))
kill_other column (GlobalName caret name subs) h = absurd (false≢true (sym h))
kill_other column (SpecialName s) h = refl
kill_other column (Prefixed op t) h = refl
kill_other column (Chain t rest) h = refl
kill_other column (PatternText text) h = refl
kill_other column (Func f args) h = refl
kill_other column (Selected cs) h = refl
kill_other column (BareCall caret callee) h = refl
kill_other column (CallOf caret callee given) h = refl
