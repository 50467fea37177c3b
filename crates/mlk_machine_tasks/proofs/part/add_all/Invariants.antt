use Rattle.std.proofs.Common.{take}
use Rattle.std.specs.Prelude.{flat_map}
use Rattle.mlk_machine_jobs.specs.TaskViews.{Adds}
use Rattle.mlk_machine_tasks.proofs.part.add_all.Given as goal

abbrev pub invariant-loop-item : goal.invariant-loop-item
invariant-loop-item g l = Adds (flat_map g.P.Expanded.tasks (take l.item-index l.items)) l.fn.parts.items l.parts.items
