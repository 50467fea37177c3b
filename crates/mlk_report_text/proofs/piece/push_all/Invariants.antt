use Rattle.std.proofs.Common.{◌≡◌, ◌++◌, drop}
use Rattle.mlk_report_text.specs.Pieces.{pieces_text}
use Rattle.mlk_report_text.proofs.piece.push_all.Given as goal

abbrev pub invariant-loop-piece : goal.invariant-loop-piece
invariant-loop-piece l = l.text.items ++ pieces_text (drop l.piece-index l.pieces) ≡ l.fn.text.items ++ pieces_text l.pieces
