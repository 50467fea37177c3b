use Rattle.std.proofs.Common.{◌≡◌, ◌++◌, drop}
use Rattle.mlk_forms.specs.Rendering.{rows_at}
use Rattle.mlk_forms.proofs.shown.rows_at.Given as goal

abbrev pub invariant-loop-number : goal.invariant-loop-number
invariant-loop-number l = l.found.items ++ rows_at l.rows (drop l.number-index l.numbers) ≡ rows_at l.rows l.numbers
