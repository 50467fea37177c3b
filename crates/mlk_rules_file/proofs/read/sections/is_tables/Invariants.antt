use Rattle.std.proofs.Common.{◌≡◌, drop}
use Rattle.toml.specs.View.{items_view}
use Rattle.mlk_rules_file.specs.RuleSections.{is_tables}
use Rattle.mlk_rules_file.proofs.read.sections.is_tables.Given as goal

abbrev pub invariant-loop-value : goal.invariant-loop-value
invariant-loop-value l = is_tables (items_view (drop l.value-index l.values)) ≡ is_tables (items_view l.values)
