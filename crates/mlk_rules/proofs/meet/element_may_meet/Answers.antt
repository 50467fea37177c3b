use Rattle.std.proofs.Common.{refl}
use Rattle.mlk_rules.proofs.FrontLemmas.{element_meets}
use Rattle.mlk_rules.proofs.meet.element_may_meet.Goals as goal

pub returns-in_default : goal.returns-in_default
returns-in_default c = (λ is. element_meets c.args.element.now c.args.symbol.now c.in_default.not-Literal, λ h. refl)
