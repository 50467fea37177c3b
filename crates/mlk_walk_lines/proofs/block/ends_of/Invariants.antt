use Rattle.std.proofs.Common.{◌≡◌, drop, map, take, []}
use Rattle.mlk_walk_state.specs.States.{at_rest}
use Rattle.mlk_walk_exprs.specs.Walks.{put_states}
use Rattle.mlk_walk_lines.proofs.block.ends_of.Given as goal

abbrev pub invariant-loop-case : goal.invariant-loop-case
invariant-loop-case l = take 17 (put_states (map at_rest (drop l.case-index l.cases)) l.ends) ≡ take 17 (put_states (map at_rest l.block.ends) [])
