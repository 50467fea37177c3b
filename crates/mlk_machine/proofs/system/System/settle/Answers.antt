use Rattle.mlk_machine.proofs.system.System.settle.Goals as goal

pub invariant_of-self : goal.invariant_of-self
invariant_of-self c = (
  c.settle_numbered.ensures.sound,
  c.settle_numbered.ensures.numbers,
  c.settle_numbered.ensures.covered c.self.inside.table c.self.invariant.2,
)
