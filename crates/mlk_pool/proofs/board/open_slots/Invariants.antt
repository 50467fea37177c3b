use Rattle.std.proofs.Common.{◌≡◌, replicate}
use Rattle.mlk_pool.specs.declared.board.Slot.TheVariants.{Open}
use Rattle.mlk_pool.proofs.board.open_slots.Given as goal

abbrev pub invariant-loop : goal.invariant-loop
invariant-loop l = l.slots.items ≡ replicate l.counter Open
