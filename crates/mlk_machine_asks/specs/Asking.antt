-- What the next step of a job asks for, by the choices that the step takes. This project's own.
use Rattle.std.specs.Prelude.{◌≡◌, Bool, true, false, List, ◌∷◌, Ok, Err}
use Rattle.mlk_names.specs.declared.lock_name.LockName.{LockName}
use Rattle.mlk_syntax.specs.Trees.{RoutineTree}
use Rattle.mlk_machine_locks.specs.declared.refusal.Refusal.{Refusal}
use Rattle.mlk_machine_locks.specs.declared.refusal.Refusal.TheVariants.{BadChoice}
use Rattle.mlk_machine_jobs.specs.declared.choice.Choice.{Choice}
use Rattle.mlk_machine_jobs.specs.declared.choice.Choice.TheVariants as choice
use Rattle.mlk_machine_jobs.specs.Choices.{Stepped}
use Rattle.mlk_machine_jobs.specs.Runs.{go}
use Rattle.mlk_machine_jobs.specs.Tasks as task
use Rattle.mlk_machine_jobs.specs.Tasks.{Task, Job}
use Rattle.mlk_machine_asks.specs.declared.asking.Question.{Question}
use Rattle.mlk_machine_asks.specs.declared.asking.Question.TheVariants.{Nothing, Value, Truth, Time}

-- the choice answers the question
abbrev pub answers : Question → Choice → Bool
answers Nothing choice.None = true
answers Value (choice.Value value) = true
answers Truth (choice.Truth truth) = true
answers Time (choice.Truth truth) = true
answers q c = false

-- the step is made, and the step is refused for its choice
abbrev pub is_made : Stepped → Bool
is_made (Ok j) = true
is_made (Err why) = false

abbrev pub is_bad : Stepped → Bool
is_bad (Err BadChoice) = true
is_bad step = false

-- the question whether a step was in time
abbrev pub is_of_time : Question → Bool
is_of_time Time = true
is_of_time q = false

-- the step is one with a timeout: a claim, or READ
abbrev pub is_timed : List Task → Bool
is_timed (task.Claim names timed ∷ ts) = timed
is_timed (task.AskTest ∷ ts) = true
is_timed ts = false

-- The question that the next step of a job asks, whatever names are free: a choice that answers it is never refused as the wrong
-- one, any other choice makes no step, and a step with a timeout asks whether it was done in time.
pub record IsAsked (routines : List RoutineTree) (j : Job) (q : Question) : Type 0 where
  pub right : (free : LockName → Bool) (c : Choice) → answers q c ≡ true → is_bad (go routines free c j) ≡ false
  pub wrong : (free : LockName → Bool) (c : Choice) → answers q c ≡ false → is_made (go routines free c j) ≡ false
  pub time : is_of_time q ≡ is_timed j.tasks
