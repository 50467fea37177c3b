-- The invariants of a job at each moment, whatever the certificate says of it. This project's own choice.
use Rattle.mlk_rules.specs.declared.rules.RuleLists.{RuleLists}
use Rattle.mlk_machine_laws.specs.Moments.{StandsCovered, StandsInOrder, EndsEmpty}
use Rattle.mlk_machine_jobs.specs.Tasks.{Job}

-- the invariants of a job at each moment
pub record Facts (rules : RuleLists) (j : Job) : Type 0 where
  pub covered : StandsCovered rules j
  pub in_order : StandsInOrder rules.families j
  pub ends : EndsEmpty j
