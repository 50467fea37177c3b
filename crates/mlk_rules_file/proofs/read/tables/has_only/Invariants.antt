use Rattle.std.proofs.Common.{◌≡◌}
use Rattle.toml.specs.View.{table_view}
use Rattle.mlk_rules_file.specs.RuleSections.{has_only}
use Rattle.mlk_rules_file.proofs.RuleTables.{only_keys}
use Rattle.mlk_rules_file.proofs.read.tables.has_only.Given as goal

abbrev pub invariant-loop-key : goal.invariant-loop-key
invariant-loop-key l = only_keys l.section l.key-iterator ≡ has_only l.section (table_view l.table)
