use Rattle.mlk_names.proofs.OverlapLemmas.{free_meets}
use Rattle.mlk_names.proofs.overlap.syms_may_meet.Goals as goal
use Rattle.std.proofs.Common.{refl}

pub returns-in_default : goal.returns-in_default
returns-in_default c = (λ is. free_meets c.args.first.now c.args.second.now c.in_default.not-Const, λ h. refl)
