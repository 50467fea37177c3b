use Rattle.std.proofs.Common.{ℕ, List, map, drop}
use Rattle.mlk_syntax.specs.Views.{routine_of}
use Rattle.mlk_forms.specs.Rendering.{ArePlaced}
use Rattle.mlk_forms.proofs.row.push_placed_rows.Given as goal

abbrev pub invariant-loop-row : goal.invariant-loop-row
invariant-loop-row l = (new : List ℕ) → ArePlaced (map routine_of l.program) (drop l.row-index l.rows) l.text new → ArePlaced (map routine_of l.program) l.rows l.fn.text new
