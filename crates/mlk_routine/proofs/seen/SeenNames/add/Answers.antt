use Rattle.mlk_routine.proofs.SeenNames.{has_after}
use Rattle.mlk_routine.proofs.seen.SeenNames.add.Goals as goal

pub returns-clause-has : goal.returns-clause-has
returns-clause-has c = has_after c.in_ok-insert.field-0 c.args.name c.args.self.now.texts.keys c.insert.new.self.keys c.in_ok-insert.ensures.added c.in_ok-insert.ensures.keys
