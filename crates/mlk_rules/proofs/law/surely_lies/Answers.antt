use Rattle.mlk_rules.proofs.Meetings.{surely_lies}
use Rattle.mlk_rules.proofs.law.surely_lies.Goals as goal

pub returns : goal.returns
returns c = surely_lies
