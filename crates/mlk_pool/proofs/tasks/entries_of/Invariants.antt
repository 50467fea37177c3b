use Rattle.std.proofs.Common.{◌≡◌, ◌++◌, map, drop}
use Rattle.mlk_syntax.specs.Views.{routine_of}
use Rattle.mlk_walk.specs.Reports.{entries_from}
use Rattle.mlk_pool.proofs.tasks.entries_of.Given as goal

abbrev pub invariant-loop-number : goal.invariant-loop-number
invariant-loop-number l =
    l.entries.items ++ entries_from l.number (map routine_of (drop l.number l.routine-items))
    ≡ entries_from 0 (map routine_of l.routine-items)
