use Rattle.std.proofs.Common.{take}
use Rattle.std.specs.Prelude.{flat_map}
use Rattle.mlk_program.specs.Found.{Finds}
use Rattle.mlk_program.proofs.found.find_all.Given as goal

abbrev pub invariant-loop-item : goal.invariant-loop-item
invariant-loop-item g l = Finds (flat_map g.T.HasCalls.calls (take l.item-index l.items)) l.fn.found.items l.found.items
