use Rattle.std.proofs.Common.{◌≡◌, take}
use Rattle.mlk_walk_exprs.specs.References.{reference}
use Rattle.mlk_walk_exprs.proofs.reference.reference_to.Given as goal

abbrev pub invariant-loop-symbol : goal.invariant-loop-symbol
invariant-loop-symbol l = l.reference ≡ reference l.fn.extent l.fn.access l.name (take l.symbol-index l.symbols)
