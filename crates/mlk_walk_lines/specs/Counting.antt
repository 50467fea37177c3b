-- Comparing walks up to the number of states that matters. For private clauses only. This project's own.
use Rattle.std.specs.Prelude.{take}
use Rattle.mlk_walk_exprs.specs.declared.walk.Walk.{Walk}
use Rattle.mlk_walk_exprs.specs.Walks.{with_states}

-- the walk with only its first 17 states: whether there are too many depends on these alone
unfoldable pub counted : Walk → Walk
counted w = with_states (take 17 w.going) w
