use Rattle.std.proofs.Common.{◌≡◌, ◌++◌, map, drop}
use Rattle.mlk_syntax.specs.Views.{routine_of}
use Rattle.mlk_plain_report.specs.Texts.{row_lines}
use Rattle.mlk_plain_report.proofs.rendering.push_rows.Given as goal

abbrev pub invariant-loop-row : goal.invariant-loop-row
invariant-loop-row l = l.text ++ row_lines (map routine_of l.routines) (drop l.row-index l.rows) ≡ l.fn.text ++ row_lines (map routine_of l.routines) l.rows
