use Rattle.std.proofs.Common.{◌≡◌, ◌++◌, length}
use Rattle.std.specs.Prelude.{map, filter_map}
use Rattle.mlk_syntax.specs.Views.{routine_of}
use Rattle.mlk_program.specs.Entries.{entry_by}
use Rattle.mlk_walk_state.specs.Entries.{further}
use Rattle.mlk_walk_state.specs.Scope.{firsts}
use Rattle.mlk_walk_state.proofs.scope.Entries.declare_all.Given as goal

abbrev pub invariant-loop-text : goal.invariant-loop-text
invariant-loop-text l =
    (l.self.1 ++ further (λ e. e) l.self.1 (firsts (λ e. e) (filter_map (entry_by (map routine_of l.program)) l.left))
    ≡ l.fn.self.1 ++ further (λ e. e) l.fn.self.1 (firsts (λ e. e) (filter_map (entry_by (map routine_of l.program)) l.fn.texts)))
    × (l.self.0 ≡ l.fn.self.0)

abbrev pub decreases-loop-text : goal.decreases-loop-text
decreases-loop-text l = length l.left
