-- LOCK once its subscripts were computed. Restates ISO/IEC 11756, LOCK; that a name which occurs several times in one
-- argument counts as often, and the greatest count, are this project's own choice.
use Rattle.std.specs.Prelude.{ℕ, ◌+◌, Bool, true, false, ◌&&◌, List, [], ◌∷◌, take, drop, Ok, Err}
use Rattle.std.specs.List.{list_all}
use Rattle.mlk_text.specs.declared.root.Root.{Root}
use Rattle.mlk_text.specs.declared.root.Root.TheVariants as root
use Rattle.mlk_names.specs.declared.lock_name.LockName.{LockName}
use Rattle.mlk_syntax.specs.ExprTrees.{LocalName, GlobalName}
use Rattle.mlk_syntax.specs.declared.command.Sign.{Sign}
use Rattle.mlk_syntax.specs.declared.command.Sign.TheVariants as sign
use Rattle.mlk_syntax.specs.Trees.{VariableTree, Named}
use Rattle.mlk_machine_locks.specs.declared.refusal.Refusal.TheVariants.{NotEnabled}
use Rattle.mlk_machine_locks.specs.Counts.{all_raised, has_room}
use Rattle.mlk_machine_jobs.specs.declared.choice.Choice.{Choice}
use Rattle.mlk_machine_jobs.specs.Tasks as task
use Rattle.mlk_machine_jobs.specs.Tasks.{Task, Job}
use Rattle.mlk_machine_jobs.specs.Commands.{count_in}
use Rattle.mlk_machine_jobs.specs.Choices.{Stepped, without_choice, with_truth}

-- Lock names, with subscripts that were computed.
abbrev pub root_in : VariableTree → Root
root_in (Named column (GlobalName caret name subs)) = root.Global name
root_in (Named column (LocalName name subs)) = root.Local name
root_in (Named column _) = root.Local []

abbrev pub count_all : List VariableTree → ℕ
count_all [] = 0
count_all (v ∷ names) = count_in v + count_all names

abbrev pub lock_name_of : VariableTree → List (List ℕ) → LockName
lock_name_of v subs = record { root = root_in v; subs = subs }

abbrev pub names_of : List (List ℕ) → List VariableTree → List LockName
names_of subs [] = []
names_of subs (v ∷ names) = lock_name_of v (take (count_in v) subs) ∷ names_of (drop (count_in v) subs) names

-- Without a sign all locks are released before the claim, in a step of its own.
abbrev pub by_sign : Sign → List LockName → Bool → List Task
by_sign sign.None names timed = task.ReleaseAll ∷ task.Claim names timed ∷ []
by_sign sign.Plus names timed = task.Claim names timed ∷ []
by_sign sign.Minus names timed = task.Release names ∷ []

abbrev pub held_more : List LockName → Job → Job
held_more names j = record j { held = all_raised names j.held }

abbrev pub tested : Bool → Job → Job
tested truth j = record j { test = truth }

abbrev pub if_free : Bool → Job → Stepped
if_free true j = Ok j
if_free false j = Err NotEnabled

-- A claim is granted if all names are free and no count exceeds the maximum; a timed one may fail at any time.
abbrev pub granted : (LockName → Bool) → List LockName → Job → Stepped
granted free names j = if_free (list_all free names && has_room names j.held) (held_more names j)

abbrev pub timed_claim : (LockName → Bool) → List LockName → Bool → Job → Stepped
timed_claim free names true j = granted free names (tested true j)
timed_claim free names false j = Ok (tested false j)

abbrev pub claim_step : (LockName → Bool) → Choice → List LockName → Bool → Job → Stepped
claim_step free c names false j = without_choice c (granted free names j)
claim_step free c names true j = with_truth c (λ t. timed_claim free names t j)
