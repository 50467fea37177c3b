use Rattle.std.proofs.Common.{◌≡◌, ◌++◌, map, drop}
use Rattle.std.specs.Prelude.{flat_map}
use Rattle.mlk_syntax.specs.Views.{line_of, routine_of}
use Rattle.mlk_walk.specs.Reports.{rows_of, line_entries}
use Rattle.mlk_walk.proofs.check.check_lines.Given as goal

abbrev pub invariant-loop-number : goal.invariant-loop-number
invariant-loop-number l =
    l.report ++ flat_map (rows_of (map routine_of l.checks.program.now) l.checks.rules.now l.checks.entries.now) (line_entries l.routine l.number (map line_of (drop l.number l.lines)))
    ≡ l.fn.report ++ flat_map (rows_of (map routine_of l.checks.program.now) l.checks.rules.now l.checks.entries.now) (line_entries l.routine 0 (map line_of l.lines))
