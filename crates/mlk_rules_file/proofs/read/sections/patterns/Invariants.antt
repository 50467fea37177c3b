use Rattle.std.proofs.Common.{◌≡◌, ◌+◌, drop}
use Rattle.toml.specs.View.{items_view}
use Rattle.mlk_rules_file.specs.RuleSections.{put_first, each, rule_pattern_of}
use Rattle.mlk_rules_file.proofs.read.sections.patterns.Given as goal

abbrev pub invariant-loop-i : goal.invariant-loop-i
invariant-loop-i l = put_first l.found.items (each (rule_pattern_of l.section) (l.i + 1) (items_view (drop l.i l.values))) ≡ each (rule_pattern_of l.section) 1 (items_view l.values)
