-- Walks, step by step.
use Rattle.std.proofs.Common.{◌≡◌, Result, subst}
use Rattle.std.specs.Prelude.{OnOk}
use Rattle.mlk_walk_exprs.specs.declared.walk.Walk.{Walk}

pub carried : {T E : Type 0} (r : Result T E) (w a b : Walk) → OnOk r (w ≡ a) → a ≡ b → OnOk r (w ≡ b)
carried r w a b h e = subst (λ z. OnOk r (w ≡ z)) e h
