use Rattle.mlk_program.proofs.SharingCalls.{calls-share}
use Rattle.mlk_program.proofs.law.calls_share.Goals as goal

pub returns : goal.returns
returns c = calls-share
