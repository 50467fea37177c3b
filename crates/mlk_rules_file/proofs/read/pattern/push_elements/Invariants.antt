use Rattle.std.proofs.Common.{◌≡◌, ◌++◌, drop}
use Rattle.mlk_rules_file.specs.RuleKinds.{elements_of}
use Rattle.mlk_rules_file.proofs.read.pattern.push_elements.Given as goal

abbrev pub invariant-loop-item : goal.invariant-loop-item
invariant-loop-item l = l.found.items ++ elements_of (drop l.item-index l.items) ≡ l.initial.found.items ++ elements_of l.items
