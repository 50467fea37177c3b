use Rattle.std.proofs.Common.{◌≡◌, ◌++◌, drop}
use Rattle.mlk_cert_lexemes.proofs.text.WrittenText.push.Given as goal

abbrev pub invariant-loop-byte : goal.invariant-loop-byte
invariant-loop-byte l = l.self ++ drop l.byte-index l.piece ≡ l.fn.self ++ l.piece
