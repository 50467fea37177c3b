use Rattle.std.proofs.Common.{◌↔◌, length}
use Rattle.std.specs.Prelude.{map}
use Rattle.mlk_names.specs.References.{SubsMayMeet}
use Rattle.mlk_rules.specs.Fronts.{symbol_of}
use Rattle.mlk_rules.proofs.meet.elements_may_meet.Given as goal

abbrev pub invariant-loop-element : goal.invariant-loop-element
invariant-loop-element l = SubsMayMeet (map symbol_of l.elements) l.wide l.symbols l.far ↔ SubsMayMeet (map symbol_of l.fn.elements) l.wide l.fn.symbols l.far

abbrev pub decreases-loop-element : goal.decreases-loop-element
decreases-loop-element l = length l.elements
