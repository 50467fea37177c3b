use Rattle.std.proofs.Common.{◌∙◌}
use Rattle.indexmap.proofs.CallerLemmas.{insert_entry-new}
use Rattle.mlk_rules.proofs.GroupTables.{found_in}
use Rattle.mlk_rules.proofs.groups.Groups.put.Goals as goal

pub returns : goal.returns
returns c =
    let absent = found_in c.args.name c.self.inside.by_global.entries ∙ rw (← c.self.view_is) at c.requires in
    rw (← c.self.view_is) (c.in_ok-insert.ensures.entries ∙ insert_entry-new _ c.self.inside.by_global c.args.name c.args.rules absent)
