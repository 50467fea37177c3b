use Rattle.std.proofs.Common.{◌∙◌, ap}
use Rattle.toml.proofs.Views.{table_get}
use Rattle.mlk_rules_file.specs.RuleSections.{as_text}
use Rattle.mlk_rules_file.proofs.read.tables.text_if.Goals as goal

pub returns-in-Some : goal.returns-in-Some
returns-in-Some c =
    let found = table_get c.get.result c.args.key.now c.args.table.now.entries c.get.ensures.value in
    c.its_text.ensures ∙ ap as_text (rw c.in-Some.is at found)

pub returns-in-None : goal.returns-in-None
returns-in-None c =
    let found = table_get c.get.result c.args.key.now c.args.table.now.entries c.get.ensures.value in
    ap as_text (rw c.in-None.is at found)
