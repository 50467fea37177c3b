use Rattle.std.proofs.Common.{sym}
use Rattle.mlk_rules_file.proofs.RuleTables.{count-view}
use Rattle.mlk_rules_file.proofs.read.sections.count.Goals as goal

pub returns : goal.returns
returns c = sym (count-view c.args.values.now)
