use Rattle.std.specs.Prelude.{length, [], ◌∷◌}
use Rattle.mlk_soundness_machine.specs.Listed.{FactsSince}
use Rattle.mlk_soundness_machine.proofs.Runs.{moments, stopped_facts}
use Rattle.mlk_soundness_machine.proofs.law.safe_at_each_moment.Goals as goal

pub returns : goal.returns
returns c = λ routines declared rules entries safe e test values k first j acts begins runs.
    moments routines declared (FactsSince routines rules entries) (stopped_facts routines rules entries) acts (first ∷ []) first j (safe e test values k first begins (length acts)) runs
