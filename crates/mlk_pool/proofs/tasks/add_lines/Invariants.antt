use Rattle.std.proofs.Common.{◌≡◌, ◌++◌, map, drop}
use Rattle.mlk_syntax.specs.Views.{line_of}
use Rattle.mlk_walk.specs.Reports.{line_entries}
use Rattle.mlk_pool.proofs.tasks.add_lines.Given as goal

abbrev pub invariant-loop-number : goal.invariant-loop-number
invariant-loop-number l =
    l.entries.items ++ line_entries l.routine l.number (map line_of (drop l.number l.lines))
    ≡ l.fn.entries.items ++ line_entries l.routine 0 (map line_of l.lines)
