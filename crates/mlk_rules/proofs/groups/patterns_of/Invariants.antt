use Rattle.std.proofs.Common.{◌≡◌, ◌++◌, drop}
use Rattle.mlk_rules.specs.Groups.{patterns_of}
use Rattle.mlk_rules.proofs.groups.patterns_of.Given as goal

abbrev pub invariant-loop-pattern : goal.invariant-loop-pattern
invariant-loop-pattern l = l.items.items ++ patterns_of l.name (drop l.pattern-index l.patterns) ≡ patterns_of l.name l.patterns
