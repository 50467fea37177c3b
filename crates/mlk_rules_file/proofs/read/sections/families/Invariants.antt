use Rattle.std.proofs.Common.{◌≡◌, ◌+◌, drop}
use Rattle.toml.specs.View.{items_view}
use Rattle.mlk_rules_file.specs.RuleSections.{put_first, each, family_of}
use Rattle.mlk_rules_file.proofs.read.sections.families.Given as goal

abbrev pub invariant-loop-i : goal.invariant-loop-i
invariant-loop-i l = put_first l.found.items (each family_of (l.i + 1) (items_view (drop l.i l.values))) ≡ each family_of 1 (items_view l.values)
