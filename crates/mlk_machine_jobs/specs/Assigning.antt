-- SET and MERGE once everything that they need was computed. Restates ISO/IEC 11756, SET, MERGE.
use Rattle.std.specs.Prelude.{ℕ, ◌+◌, List, [], ◌∷◌, ◌++◌, length, take, drop}
use Rattle.mlk_names.specs.declared.reference.Extent.TheVariants as extent
use Rattle.mlk_names.specs.declared.reference.Access.TheVariants.{Reads, Writes}
use Rattle.mlk_syntax.specs.ExprTrees.{LocalName, GlobalName, no_subs}
use Rattle.mlk_syntax.specs.Trees.{VariableTree, Named, TargetTree, SetWhole, SetPart}
use Rattle.mlk_machine_jobs.specs.Tasks as task
use Rattle.mlk_machine_jobs.specs.Tasks.{Task}
use Rattle.mlk_machine_jobs.specs.Commands.{count_in}
use Rattle.mlk_machine_jobs.specs.Choices.{touch_at}

-- The assignments of SET, from left to right, of a value, given the values that the targets need: a target that is part of a
-- global is read, and then written; a local to a part of which a value is assigned may have any value then. The values of locals
-- with subscripts are not tracked.
abbrev pub assigned : List ℕ → List (List ℕ) → TargetTree → List Task
assigned value subs (SetWhole (Named column (LocalName name no_subs))) = task.Store name value ∷ []
assigned value subs (SetWhole (Named column (GlobalName caret name ss))) =
    task.DoTouch (touch_at name subs extent.Node Writes) ∷ []
assigned value subs (SetPart part (Named column (LocalName name no_subs)) arguments) = task.StoreAny name ∷ []
assigned value subs (SetPart part (Named column (GlobalName caret name ss)) arguments) =
    task.DoTouch (touch_at name subs extent.Node Reads) ∷ task.Drop 1
    ∷ task.DoTouch (touch_at name subs extent.Node Writes) ∷ []
assigned value subs v = []

abbrev pub subs_of_target : TargetTree → ℕ
subs_of_target (SetWhole v) = count_in v
subs_of_target (SetPart part v arguments) = count_in v

abbrev pub parts_in : TargetTree → ℕ
parts_in (SetWhole v) = count_in v
parts_in (SetPart part v arguments) = count_in v + length arguments

abbrev pub count_parts : List TargetTree → ℕ
count_parts [] = 0
count_parts (t ∷ ts) = parts_in t + count_parts ts

abbrev pub assignments : List ℕ → List (List ℕ) → List TargetTree → List Task
assignments value needs [] = []
assignments value needs (t ∷ ts) =
    assigned value (take (subs_of_target t) needs) t ++ assignments value (drop (parts_in t) needs) ts

-- MERGE, given the subscripts of both sides: the tree on the right is read, then the left one is written. A local without
-- subscripts may have any value then.
abbrev pub merge_source : List (List ℕ) → VariableTree → List Task
merge_source subs (Named column (GlobalName caret name ss)) = task.DoTouch (touch_at name subs extent.Tree Reads) ∷ []
merge_source subs v = []

abbrev pub merge_target : List (List ℕ) → VariableTree → VariableTree → List Task
merge_target subs (Named column (LocalName name no_subs)) (Named c (GlobalName caret other ss)) =
    task.StoreLast name ∷ []
merge_target subs (Named column (LocalName name no_subs)) v = task.StoreAny name ∷ []
merge_target subs (Named column (GlobalName caret name ss)) (Named c (GlobalName d other ts)) =
    task.Drop 1 ∷ task.DoTouch (touch_at name subs extent.Tree Writes) ∷ []
merge_target subs (Named column (GlobalName caret name ss)) v =
    task.DoTouch (touch_at name subs extent.Tree Writes) ∷ []
merge_target subs v (Named c (GlobalName caret other ss)) = task.Drop 1 ∷ []
merge_target subs v w = []
