use Rattle.mlk_rules.proofs.rules.Rules.families.Goals as goal

pub returns-clause-apart : goal.returns-clause-apart
returns-clause-apart c = rw (c.as_slice.ensures) c.self.invariant.sound.apart
