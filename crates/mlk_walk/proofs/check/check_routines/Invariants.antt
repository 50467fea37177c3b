use Rattle.std.proofs.Common.{◌≡◌, ◌++◌, map, drop}
use Rattle.std.specs.Prelude.{flat_map}
use Rattle.mlk_syntax.specs.Views.{routine_of}
use Rattle.mlk_walk.specs.Reports.{rows_of, entries_from}
use Rattle.mlk_walk.proofs.check.check_routines.Given as goal

abbrev pub invariant-loop-number : goal.invariant-loop-number
invariant-loop-number l =
    l.report ++ flat_map (rows_of (map routine_of l.checks.program.now) l.checks.rules.now l.checks.entries.now) (entries_from l.number (map routine_of (drop l.number l.routine-items)))
    ≡ flat_map (rows_of (map routine_of l.checks.program.now) l.checks.rules.now l.checks.entries.now) (entries_from 0 (map routine_of l.routine-items))
