use Rattle.std.proofs.Common.{◌≡◌, ◌++◌, drop}
use Rattle.std.specs.Prelude.{map}
use Rattle.mlk_report_text.specs.Pieces.{bytes_of, more}
use Rattle.mlk_report_text.proofs.piece.push_more.Given as goal

abbrev pub invariant-loop-item : goal.invariant-loop-item
invariant-loop-item l = l.text.items ++ more (map bytes_of (drop l.item-index l.items)) ≡ l.fn.text.items ++ more (map bytes_of l.items)
