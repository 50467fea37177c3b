use Rattle.std.proofs.Common.{◌≡◌, ◌++◌, drop, map}
use Rattle.std.specs.Prelude.{option_map, option_copied}
use Rattle.mlk_syntax.specs.Views.{line_of, lines_from}
use Rattle.mlk_walk_state.specs.Scope.{scope_of}
use Rattle.mlk_walk_lines.specs.Endings.{around_of, head_of}
use Rattle.mlk_walk_lines.specs.Parts.{part_walk}
use Rattle.mlk_walk_lines.proofs.level.+level.Given as goal

abbrev pub invariant-walk_lines-loop-line : goal.invariant-walk_lines-loop-line
invariant-walk_lines-loop-line l = (scope_of l.here ≡ scope_of l.scope)
    × ((l.later ≡ drop l.line-index l.lines)
    × ((l.found ++ (part_walk (scope_of l.scope) (around_of l.around) (option_map head_of (option_copied l.after)) (lines_from (map line_of (drop l.line-index l.lines)))).faults
    ≡ l.fn.found ++ (part_walk (scope_of l.scope) (around_of l.around) (option_map head_of (option_copied l.after)) (lines_from (map line_of l.fn.lines))).faults)
    × (l.all.items ++ (part_walk (scope_of l.scope) (around_of l.around) (option_map head_of (option_copied l.after)) (lines_from (map line_of (drop l.line-index l.lines)))).ends
    ≡ (part_walk (scope_of l.scope) (around_of l.around) (option_map head_of (option_copied l.after)) (lines_from (map line_of l.fn.lines))).ends)))
