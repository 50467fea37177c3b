use Rattle.std.proofs.Common.{sym}
use Rattle.mlk_rules.proofs.GroupTables.{is_group}
use Rattle.mlk_rules.proofs.rules.Rules.group.Goals as goal

pub returns : goal.returns
returns c = rw (← c.self.view_is) (is_group c.self.inside.lists c.self.inside.groups c.args.global.now c.self.invariant _ (sym c.group.ensures))
