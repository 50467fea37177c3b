use Rattle.mlk_machine.proofs.system.System.begin.Goals as goal

pub invariant_of-self : goal.invariant_of-self
invariant_of-self c = (
  c.begin.ensures.sound,
  c.begin.ensures.numbers,
  c.begin.ensures.covered c.self.inside.table c.self.invariant.2,
)
