use Rattle.std.proofs.Common.{◌≡◌, map, take}
use Rattle.mlk_machine.specs.Copies.{shown_of}
use Rattle.mlk_machine.proofs.copying.copy_pending.Given as goal

abbrev pub invariant-loop-one : goal.invariant-loop-one
invariant-loop-one l = map shown_of l.copies.items ≡ map shown_of (take l.one-index l.pending)
