use Rattle.mlk_rules_file.proofs.Written.{are_written}
use Rattle.mlk_rules_file.proofs.law.are_written.Goals as goal

pub returns : goal.returns
returns c = are_written
