use Rattle.std.proofs.Common.{ap, ◌∙◌}
use Rattle.mlk_rules_file.proofs.RuleTables.{only_keys, only-view}
use Rattle.mlk_rules_file.proofs.read.tables.has_only.Goals as goal

pub loop-key-init : goal.loop-key-init
loop-key-init c =
    ap (only_keys c.args.section) (c.into_iter-key-iterator.ensures.into_iter_gives ∙ c.keys-key-items.ensures.rest)
    ∙ only-view c.args.section c.args.table.now.entries
