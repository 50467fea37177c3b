use Rattle.std.proofs.Common.{◌∙◌}
use Rattle.mlk_rules.proofs.GroupTables.{found_in}
use Rattle.mlk_rules.proofs.groups.Groups.group.Goals as goal

pub returns : goal.returns
returns c = rw (← c.self.view_is) (c.get.ensures.value ∙ found_in c.args.name.now c.self.inside.by_global.entries)
