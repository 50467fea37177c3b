-- Assignments, by what is assigned.
use Rattle.std.proofs.Common.{◌≡◌, ◌∙◌, ◌≤◌, ◌+◌, ◌-◌, min, ap, arith, ℕ, false, refl, sym, List, [], ◌∷◌, length, map, Some, None, Vec, Global}
use Rattle.std.specs.Prelude.{◌^◌}
use Rattle.std.proofs.Math.Nat.{min-eq_left}
use Rattle.std.proofs.lemmas.Bool.{false≢true}
use Rattle.std.proofs.lemmas.List.{length-map}
use Rattle.mlk_syntax.specs.declared.expr.Expr.{Expr}
use Rattle.mlk_syntax.specs.declared.expr.Subscript.{Subscript}
use Rattle.mlk_syntax.specs.declared.expr.Expr.TheVariants as rust
use Rattle.mlk_syntax.specs.ExprTrees.{Tree, Lit, Free, LocalName, GlobalName, SpecialName, Prefixed, Chain, PatternText, Func, Selected, BareCall, CallOf, no_subs, sub, tree_of, trees}
use Rattle.mlk_syntax.proofs.Variants.{tree_global}
use Rattle.mlk_syntax.specs.declared.command.Part.{Part}
use Rattle.mlk_syntax.specs.declared.command.Target.{Target}
use Rattle.mlk_syntax.specs.Views.{target_of}
use Rattle.mlk_syntax.specs.Trees.{VariableTree, Named, SetWhole, SetPart}
use Rattle.mlk_machine_jobs.specs.Assigning.{assigned, count_parts, merge_source}
use Rattle.mlk_machine_expressions.specs.PartViews.{bare_name}
use Rattle.mlk_machine_assignments.specs.AssignViews.{is_global, global_name, whole_assigned, part_assigned, source_read}

pub name_of_global : (column caret : ℕ) (name : List ℕ) (v : Vec Subscript Global)
    → Some name ≡ global_name (Named column (tree_of (rust.Global caret name v)))
name_of_global column caret name v = rw (tree_global caret name v) refl

pub no_global : (column : ℕ) (t : Tree) → is_global t ≡ false → None ≡ global_name (Named column t)
no_global column (Lit value) h = refl
no_global column Free h = refl
no_global column (LocalName name subs) h = refl
no_global column (GlobalName caret name ss) h = absurd (false≢true (sym h))
no_global column (SpecialName s) h = refl
no_global column (Prefixed op t) h = refl
no_global column (Chain t links) h = refl
no_global column (PatternText text) h = refl
no_global column (Func f args) h = refl
no_global column (Selected cs) h = refl
no_global column (BareCall caret callee) h = refl
no_global column (CallOf caret callee given) h = refl

pub arguments_counted : (es : List Expr) → length (trees es) ≡ length es
arguments_counted es = length-map es tree_of

pub assigned_whole : (value : List ℕ) (subs : List (List ℕ)) (v : VariableTree)
    → assigned value subs (SetWhole v) ≡ whole_assigned value subs (bare_name v) (global_name v)
assigned_whole value subs (Named column (Lit text)) = refl
assigned_whole value subs (Named column Free) = refl
assigned_whole value subs (Named column (LocalName name no_subs)) = refl
assigned_whole value subs (Named column (LocalName name (sub c t rest))) = refl
assigned_whole value subs (Named column (GlobalName caret name ss)) = refl
assigned_whole value subs (Named column (SpecialName s)) = refl
assigned_whole value subs (Named column (Prefixed op t)) = refl
assigned_whole value subs (Named column (Chain t links)) = refl
assigned_whole value subs (Named column (PatternText text)) = refl
assigned_whole value subs (Named column (Func f args)) = refl
assigned_whole value subs (Named column (Selected cs)) = refl
assigned_whole value subs (Named column (BareCall caret callee)) = refl
assigned_whole value subs (Named column (CallOf caret callee given)) = refl

pub assigned_part : (value : List ℕ) (subs : List (List ℕ)) (part : Part) (v : VariableTree) (arguments : List Tree)
    → assigned value subs (SetPart part v arguments) ≡ part_assigned subs (bare_name v) (global_name v)
assigned_part value subs part (Named column (Lit text)) arguments = refl
assigned_part value subs part (Named column Free) arguments = refl
assigned_part value subs part (Named column (LocalName name no_subs)) arguments = refl
assigned_part value subs part (Named column (LocalName name (sub c t rest))) arguments = refl
assigned_part value subs part (Named column (GlobalName caret name ss)) arguments = refl
assigned_part value subs part (Named column (SpecialName s)) arguments = refl
assigned_part value subs part (Named column (Prefixed op t)) arguments = refl
assigned_part value subs part (Named column (Chain t links)) arguments = refl
assigned_part value subs part (Named column (PatternText text)) arguments = refl
assigned_part value subs part (Named column (Func f args)) arguments = refl
assigned_part value subs part (Named column (Selected cs)) arguments = refl
assigned_part value subs part (Named column (BareCall caret callee)) arguments = refl
assigned_part value subs part (Named column (CallOf caret callee given)) arguments = refl

pub merged_source : (subs : List (List ℕ)) (v : VariableTree) → merge_source subs v ≡ source_read subs (global_name v)
merged_source subs (Named column (Lit value)) = refl
merged_source subs (Named column Free) = refl
merged_source subs (Named column (LocalName name us)) = refl
merged_source subs (Named column (GlobalName caret name ss)) = refl
merged_source subs (Named column (SpecialName s)) = refl
merged_source subs (Named column (Prefixed op t)) = refl
merged_source subs (Named column (Chain t links)) = refl
merged_source subs (Named column (PatternText text)) = refl
merged_source subs (Named column (Func f args)) = refl
merged_source subs (Named column (Selected cs)) = refl
merged_source subs (Named column (BareCall caret callee)) = refl
merged_source subs (Named column (CallOf caret callee given)) = refl

-- a count that saturates at the greatest number
pub counted_up : (left : List Target) (count whole : ℕ) → length left ≡ 0 → count ≤ 2 ^ 64 - 1
    → min (count_parts (map target_of left) + count) (2 ^ 64 - 1) ≡ whole → count ≡ whole
counted_up [] count whole e l h =
    let z : count ≡ 0 + count = omega arith in
    sym (min-eq_left l) ∙ ap (λ k. min k (2 ^ 64 - 1)) z ∙ h
counted_up (t ∷ left) count whole e l h = absurd (omega (arith, e))
