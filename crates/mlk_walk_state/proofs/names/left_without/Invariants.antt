use Rattle.std.proofs.Common.{◌≡◌, take}
use Rattle.mlk_walk_state.specs.Names.{without}
use Rattle.mlk_walk_state.proofs.names.left_without.Given as goal

abbrev pub invariant-loop-name : goal.invariant-loop-name
invariant-loop-name l = l.left.items ≡ without l.changed (take l.name-index l.names)
