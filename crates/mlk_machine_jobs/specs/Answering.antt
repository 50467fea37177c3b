-- The frame that receives the value of QUIT. This project's own.
use Rattle.std.specs.Prelude.{Bool, true, false, List, [], ◌∷◌}
use Rattle.mlk_machine_jobs.specs.Tasks.{Task, EndFrame, AwaitsValue, HasValue}

abbrev pub awaits : Task → Bool
awaits (EndFrame (AwaitsValue test) back next routine) = true
awaits t = false

abbrev pub given_value : Task → Task
given_value (EndFrame (AwaitsValue test) back next routine) = EndFrame (HasValue test) back next routine
given_value t = t

abbrev pub keeps_value : List Task → Bool
keeps_value [] = false
keeps_value (t ∷ ts) = awaits t

abbrev pub value_kept : List Task → List Task
value_kept [] = []
value_kept (t ∷ ts) = given_value t ∷ ts
