-- The definition's events, from those of the code. This project's own.
use Rattle.std.specs.Prelude.{Some, map}
use Rattle.mlk_machine_locks.specs.Systems as systems
use Rattle.mlk_machine_locks.specs.Systems.{Act}
use Rattle.mlk_program.specs.declared.entry.EntryId.{EntryId}
use Rattle.mlk_machine_jobs.specs.declared.choice.Choice.{Choice}
use Rattle.mlk_machine.specs.declared.event.Act.{Act as ActIn}
use Rattle.mlk_machine.specs.declared.event.Act.TheVariants as act

abbrev pub act_of : ActIn → Act Choice EntryId
act_of (act.Begin entry test values) = systems.Begin entry test (map Some values)
act_of (act.Go choice) = systems.Go choice
act_of act.Abort = systems.Abort
