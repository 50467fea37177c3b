use Rattle.std.proofs.Common.{sym, ◌∙◌}
use Rattle.mlk_rules.proofs.sound.is_sound.Goals as goal

pub returns-then-families_apart : goal.returns-then-families_apart
returns-then-families_apart c =
    let apart = rw c.as_slice.ensures at (c.families_apart.ensures.0 c.if-families_apart.true) in
    (λ is. record { formed = sym c.are_formed.ensures ∙ is; apart = apart }, λ h. c.are_formed.ensures ∙ h.formed)

pub returns-else-families_apart : goal.returns-else-families_apart
returns-else-families_apart c =
    let apart = rw c.as_slice.ensures at c.families_apart.ensures in
    (λ is. absurd (cc), λ h. apart.1 h.apart)
