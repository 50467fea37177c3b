use Rattle.std.proofs.Common.{◌∙◌}
use Rattle.mlk_program.proofs.SharedNames.{any_now}
use Rattle.mlk_program.proofs.shared.SharedNames.has.Goals as goal

pub returns-then-not-is_empty : goal.returns-then-not-is_empty
returns-then-not-is_empty c = rw (← c.self.view_is) (c.contains.ensures ∙ any_now c.args.name.now c.self.inside.names.keys)
