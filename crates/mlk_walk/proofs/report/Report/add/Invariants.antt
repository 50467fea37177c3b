use Rattle.std.proofs.Common.{◌≡◌, ◌++◌, map}
use Rattle.mlk_walk.specs.Reports.{row_of}
use Rattle.mlk_walk.proofs.report.Report.add.Given as goal

abbrev pub invariant-loop-fault : goal.invariant-loop-fault
invariant-loop-fault l =
    l.self-inside.rows.items
    ≡ l.fn.self ++ map (row_of (record { routine = l.fn.entry.routine; line = l.fn.entry.line })) (map (λ e. e.0) l.yielded)
