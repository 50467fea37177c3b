use Rattle.std.proofs.Common.{sym, subst}
use Rattle.toml.specs.View.{table_view}
use Rattle.mlk_rules.specs.Ranks.{FamiliesApart}
use Rattle.mlk_rules_file.specs.RuleSections.{SaysRules}
use Rattle.mlk_rules_file.proofs.RuleSound.{lists_sound}
use Rattle.mlk_rules_file.proofs.read.document.read_rules.Goals as goal

pub from_sound-requires : goal.from_sound-requires
from_sound-requires c =
    let apart : FamiliesApart c.in_ok-lists.lists.families = subst FamiliesApart c.as_slice.ensures c.in_default.ensures in
    lists_sound (table_view c.in_ok-table.table) c.in_ok-lists.lists c.in_ok-lists.ensures apart

pub returns-clause-ok : goal.returns-clause-ok
returns-clause-ok c =
    let apart : FamiliesApart c.in_ok-lists.lists.families = subst FamiliesApart c.as_slice.ensures c.in_default.ensures in
    let says : SaysRules c.args.bytes.now c.in_ok-lists.lists = (table_view c.in_ok-table.table, c.in_ok-table.ensures.ok, (c.in_ok-lists.ensures, apart)) in
    subst (SaysRules c.args.bytes.now) (sym c.in_ok-rules.ensures) says
