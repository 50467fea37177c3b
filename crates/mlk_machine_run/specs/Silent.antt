-- A step that a job makes by itself, if its next one is silent. This project's own.
use Rattle.std.specs.Prelude.{Bool, true, false, List, [], ◌∷◌, Ok, Err}
use Rattle.mlk_machine_locks.specs.declared.refusal.Refusal.TheVariants.{NotEnabled}
use Rattle.mlk_machine_jobs.specs.Tasks as task
use Rattle.mlk_machine_jobs.specs.Tasks.{Task, Job}
use Rattle.mlk_machine_jobs.specs.Choices.{Stepped}

-- nothing is left to do, or a reference is touched, or locks are claimed or released
abbrev pub is_shown : List Task → Bool
is_shown [] = true
is_shown (task.DoTouch touch ∷ ts) = true
is_shown (task.Claim names timed ∷ ts) = true
is_shown (task.Release names ∷ ts) = true
is_shown (task.ReleaseAll ∷ ts) = true
is_shown (t ∷ ts) = false

-- the job after a step, or none if none was made
abbrev pub if_made : Bool → Job → Stepped
if_made true j = Ok j
if_made false j = Err NotEnabled
