use Rattle.std.proofs.Common.{◌≡◌, ◌++◌, drop}
use Rattle.mlk_rules_file.specs.RuleKinds.{values_of}
use Rattle.mlk_rules_file.proofs.read.family.push_values.Given as goal

abbrev pub invariant-loop-item : goal.invariant-loop-item
invariant-loop-item l = l.found.items ++ values_of (drop l.item-index l.items) ≡ l.initial.found.items ++ values_of l.items
