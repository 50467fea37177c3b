use Rattle.std.proofs.Common.{◌≡◌, ◌++◌, map, drop, filter, length}
use Rattle.std.specs.Prelude.{flat_map}
use Rattle.std.specs.List.{AllZip}
use Rattle.mlk_syntax.specs.Views.{routine_of}
use Rattle.mlk_walk.specs.Reports.{rows_of}
use Rattle.mlk_pool.specs.Given.{is_certified}
use Rattle.mlk_pool.specs.Boards.{IsSlotOf}
use Rattle.mlk_pool.proofs.NotDone.{AreLater}
use Rattle.mlk_pool.proofs.report.collect_report.Given as goal

abbrev pub invariant-loop-entry : goal.invariant-loop-entry
invariant-loop-entry g l =
    (l.report ++ flat_map (rows_of (map routine_of l.checks.program.now) l.checks.rules.now l.checks.entries.now) (drop l.entry-index l.entries)
    ≡ flat_map (rows_of (map routine_of l.checks.program.now) l.checks.rules.now l.checks.entries.now) l.entries)
    × AllZip (IsSlotOf g.N.Inputs.given) (filter (is_certified l.checks.entries.now.0) (drop l.entry-index l.entries)) l.left.items
    × AreLater l.fn.slots.items l.left.items
    × (l.count ≡ length l.fn.slots.items)
