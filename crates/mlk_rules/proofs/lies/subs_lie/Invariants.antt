use Rattle.std.proofs.Common.{◌↔◌, length}
use Rattle.mlk_rules.specs.Fronts.{SubsLie}
use Rattle.mlk_rules.proofs.lies.subs_lie.Given as goal

abbrev pub invariant-loop-element : goal.invariant-loop-element
invariant-loop-element l = SubsLie l.elements l.wide l.symbols l.far ↔ SubsLie l.fn.elements l.wide l.fn.symbols l.far

abbrev pub decreases-loop-element : goal.decreases-loop-element
decreases-loop-element l = length l.elements
