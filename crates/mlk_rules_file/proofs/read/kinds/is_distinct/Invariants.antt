use Rattle.std.proofs.Common.{◌≡◌, length}
use Rattle.mlk_rules_file.specs.RuleKinds.{is_distinct}
use Rattle.mlk_rules_file.proofs.read.kinds.is_distinct.Given as goal

abbrev pub invariant-loop-first : goal.invariant-loop-first
invariant-loop-first l = is_distinct l.left ≡ is_distinct l.items

abbrev pub decreases-loop-first : goal.decreases-loop-first
decreases-loop-first l = length l.left
