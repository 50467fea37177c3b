-- Tasks of arguments that are added.
use Rattle.std.proofs.Common.{◌≡◌, ◌-◌, ◌≤◌, ℕ, suc, List, [], ◌∷◌, ◌++◌, map, length, Option, Some, None, refl, ap, subst, arith}
use Rattle.std.specs.Prelude.{flat_map, is_some, option_map}
use Rattle.std.proofs.lemmas.List.Folds.{flat_map-map}
use Rattle.mlk_syntax.specs.declared.expr.Expr.{Expr}
use Rattle.mlk_machine_jobs.specs.declared.task.Task.{Task as TaskIn}
use Rattle.mlk_syntax.specs.ExprTrees.{tree_of, trees}
use Rattle.mlk_syntax.specs.declared.command.Target.{Target}
use Rattle.mlk_syntax.specs.declared.command.Variable.{Variable}
use Rattle.mlk_syntax.specs.Views.{variable_of, target_of}
use Rattle.mlk_syntax.specs.Trees.{ActionTree}
use Rattle.mlk_machine_jobs.specs.Tasks.{Task, Evaluate, NextArgument}
use Rattle.mlk_machine_jobs.specs.Expressions.{each_tree}
use Rattle.mlk_machine_jobs.specs.Commands.{in_variable, target_parts, in_turn}
use Rattle.mlk_machine_jobs.specs.TaskViews.{Adds, task_of}
use Rattle.mlk_machine_expressions.specs.PartViews.{args_of}
use Rattle.mlk_machine_expressions.proofs.Additions.{adds_more}
use Rattle.mlk_machine_tasks.specs.ArgumentViews.{each_value}

-- what is left of arguments, once the first of them and the count of those done were added
pub argument_added : {A : Type 0} (parts : A → List Task) (action : ActionTree) (a : A) (more : List A) (count : ℕ) (all : List Task) (old now mid new : List TaskIn)
    → suc (length more) ≤ count
    → map task_of now ++ in_turn parts action (count - suc (length more)) (a ∷ more) ≡ map task_of old ++ all
    → Adds (parts a) now mid → Adds (NextArgument action (count - length more) ∷ []) mid new
    → map task_of new ++ in_turn parts action (count - length more) more ≡ map task_of old ++ all
argument_added parts action a more count all old now mid new le is first mark =
    let n : suc (count - suc (length more)) ≡ count - length more = omega (arith, le) in
    let rest : List Task = NextArgument action (count - length more) ∷ in_turn parts action (count - length more) more in
    let here : map task_of now ++ (parts a ++ rest) ≡ map task_of old ++ all =
    subst (λ d. map task_of now ++ (parts a ++ NextArgument action d ∷ in_turn parts action d more) ≡ map task_of old ++ all) n is in
    let then : map task_of mid ++ rest ≡ map task_of old ++ all = adds_more (parts a) rest all old now mid here first in
    adds_more (NextArgument action (count - length more) ∷ []) (in_turn parts action (count - length more) more) all old mid new then mark

pub is_there : (o : Option Expr) → is_some (option_map tree_of o) ≡ is_some o
is_there None = refl
is_there (Some e) = refl

pub values_each : (es : List Expr) → each_value (trees es) ≡ each_tree (args_of es)
values_each [] = refl
values_each (e ∷ es) = ap (λ (z : List Task). Evaluate (tree_of e) ∷ z) (values_each es)

pub variables_mapped : (vs : List Variable)
    → flat_map in_variable (map variable_of vs) ≡ flat_map (λ v. in_variable (variable_of v)) vs
variables_mapped vs = flat_map-map in_variable variable_of vs

pub targets_mapped : (ts : List Target)
    → flat_map target_parts (map target_of ts) ≡ flat_map (λ t. target_parts (target_of t)) ts
targets_mapped ts = flat_map-map target_parts target_of ts
