use Rattle.std.proofs.Common.{◌↔◌, length}
use Rattle.mlk_rules.specs.Fronts.{BeginsCut}
use Rattle.mlk_rules.proofs.held.begins_cut.Given as goal

abbrev pub invariant-loop-symbol : goal.invariant-loop-symbol
invariant-loop-symbol l = BeginsCut l.known l.parts l.symbols ↔ BeginsCut l.fn.known l.fn.parts l.symbols

abbrev pub decreases-loop-symbol : goal.decreases-loop-symbol
decreases-loop-symbol l = length l.known
