use Rattle.std.proofs.Common.{◌↔◌, length}
use Rattle.mlk_rules.specs.Fronts.{SubsAbove}
use Rattle.mlk_rules.proofs.lies.subs_above.Given as goal

abbrev pub invariant-loop-symbol : goal.invariant-loop-symbol
invariant-loop-symbol l = SubsAbove l.elements l.symbols ↔ SubsAbove l.fn.elements l.fn.symbols

abbrev pub decreases-loop-symbol : goal.decreases-loop-symbol
decreases-loop-symbol l = length l.symbols
