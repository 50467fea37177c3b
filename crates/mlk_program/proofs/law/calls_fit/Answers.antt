use Rattle.mlk_program.proofs.FittingCalls.{calls-fit}
use Rattle.mlk_program.proofs.law.calls_fit.Goals as goal

pub returns : goal.returns
returns c = calls-fit
