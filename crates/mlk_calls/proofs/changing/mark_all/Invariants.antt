use Rattle.std.proofs.Common.{◌≡◌, take, map}
use Rattle.mlk_calls.specs.Changes.{marked}
use Rattle.mlk_calls.proofs.changing.mark_all.Given as goal

abbrev pub invariant-loop-symbol : goal.invariant-loop-symbol
invariant-loop-symbol l = l.found.items ≡ map (marked l.changed) (take l.symbol-index l.symbols)
