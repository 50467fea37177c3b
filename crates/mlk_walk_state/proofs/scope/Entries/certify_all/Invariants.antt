use Rattle.std.proofs.Common.{◌≡◌, ◌++◌, length}
use Rattle.std.specs.Prelude.{map, filter_map}
use Rattle.mlk_syntax.specs.Views.{routine_of}
use Rattle.mlk_walk_state.specs.Entries.{further}
use Rattle.mlk_walk_state.specs.Scope.{firsts, block_in}
use Rattle.mlk_walk_state.proofs.scope.Entries.certify_all.Given as goal

abbrev pub invariant-loop-block : goal.invariant-loop-block
invariant-loop-block l =
    (l.self.0 ++ further (λ p. p.0) l.self.0 (firsts (λ p. p.0) (filter_map (block_in (map routine_of l.program)) l.left))
    ≡ l.fn.self.0 ++ further (λ p. p.0) l.fn.self.0 (firsts (λ p. p.0) (filter_map (block_in (map routine_of l.program)) l.fn.blocks)))
    × (l.self.1 ≡ l.fn.self.1)

abbrev pub decreases-loop-block : goal.decreases-loop-block
decreases-loop-block l = length l.left
