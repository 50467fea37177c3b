use Rattle.std.proofs.Common.{ap, ◌∙◌}
use Rattle.mlk_syntax.specs.ExprTrees.{trees}
use Rattle.mlk_syntax.specs.Trees.{Hang}
use Rattle.mlk_routine.proofs.Doing.{names_named}
use Rattle.mlk_routine.proofs.command.naming.Goals as goal

pub returns : goal.returns
returns c = ap Hang (ap trees c.in_ok-names.ensures ∙ names_named c.args.devices.items)
