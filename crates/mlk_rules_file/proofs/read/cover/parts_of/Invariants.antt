use Rattle.std.proofs.Common.{◌≡◌, drop}
use Rattle.mlk_rules_file.specs.RuleKinds.{before, parts_of}
use Rattle.mlk_rules_file.proofs.read.cover.parts_of.Given as goal

abbrev pub invariant-loop-item : goal.invariant-loop-item
invariant-loop-item l = before l.found.items (parts_of l.items (drop l.item-index l.lock)) ≡ parts_of l.items l.lock
