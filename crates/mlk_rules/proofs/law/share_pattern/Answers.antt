use Rattle.mlk_rules.proofs.Meetings.{share_pattern}
use Rattle.mlk_rules.proofs.law.share_pattern.Goals as goal

pub returns : goal.returns
returns c = share_pattern
