use Rattle.std.proofs.Common.{◌≡◌, ◌≤◌, length, take}
use Rattle.mlk_machine_jobs.specs.Bindings.{look}
use Rattle.mlk_machine_jobs.specs.Views.{bindings_of}
use Rattle.mlk_machine_jobs.proofs.binding.look_up.Given as goal

abbrev pub invariant-loop-count : goal.invariant-loop-count
invariant-loop-count l = (l.count ≤ length l.binders) × (look (bindings_of (take l.count l.binders)) l.name ≡ look (bindings_of l.binders) l.name)

abbrev pub decreases-loop-count : goal.decreases-loop-count
decreases-loop-count l = l.count
