use Rattle.std.proofs.Common.{sym, ◌∙◌}
use Rattle.mlk_walk_state.specs.Names.{have}
use Rattle.mlk_walk_state.proofs.ListSteps.{none_filtered}
use Rattle.mlk_walk_state.proofs.names.take_out.Goals as goal

pub returns-else-has_some : goal.returns-else-has_some
returns-else-has_some c =
    sym (none_filtered (have c.args.changed.now) c.args.names.now (rw c.as_slice.ensures at (sym c.has_some.ensures ∙ c.if-has_some.false)))
