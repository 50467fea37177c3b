-- The truth value on which a step depends. This project's own.
use Rattle.std.specs.Prelude.{ℕ, Bool, true, false, List, [], ◌∷◌, Option, Some, None, Result, Ok, Err}
use Rattle.mlk_syntax.specs.ExprTrees.{Tree, Choices}
use Rattle.mlk_machine_locks.specs.declared.refusal.Refusal.{Refusal}
use Rattle.mlk_machine_locks.specs.declared.refusal.Refusal.TheVariants.{NotEnabled, BadChoice}
use Rattle.mlk_machine_jobs.specs.declared.choice.Choice.{Choice}
use Rattle.mlk_machine_jobs.specs.declared.choice.Choice.TheVariants as choice
use Rattle.mlk_numbers.specs.Operators.{truth_of_text}
use Rattle.mlk_machine_jobs.specs.Tasks.{Task, Evaluate, Select}

abbrev pub truth_chosen : Choice → Result Bool Refusal
truth_chosen choice.None = Err BadChoice
truth_chosen (choice.Value value) = Err BadChoice
truth_chosen (choice.Truth truth) = Ok truth

-- nothing may be chosen if the truth value is known
abbrev pub truth_known : Choice → Bool → Result Bool Refusal
truth_known choice.None truth = Ok truth
truth_known c truth = Err BadChoice

abbrev pub truth_or : Choice → Option Bool → Result Bool Refusal
truth_or c (Some truth) = truth_known c truth
truth_or c None = truth_chosen c

-- the truth of the last of these values
abbrev pub step_truth : Choice → List (List ℕ) → Result Bool Refusal
step_truth c [] = Err NotEnabled
step_truth c (v ∷ vs) = truth_or c (truth_of_text v)

-- the task after a condition of `$SELECT`
abbrev pub part_chosen : Tree → Choices → Bool → Task
part_chosen value others true = Evaluate value
part_chosen value others false = Select others
