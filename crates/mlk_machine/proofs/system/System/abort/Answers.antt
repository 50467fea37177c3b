use Rattle.mlk_machine.proofs.system.System.abort.Goals as goal

pub invariant_of-self : goal.invariant_of-self
invariant_of-self c = (
  c.abort_numbered.ensures.sound,
  c.abort_numbered.ensures.numbers,
  c.abort_numbered.ensures.covered c.self.inside.table c.self.invariant.2,
)
