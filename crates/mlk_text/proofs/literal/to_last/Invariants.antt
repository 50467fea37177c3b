use Rattle.std.proofs.Common.{◌≡◌, ◌+◌, drop}
use Rattle.std.specs.Prelude.{◌==◌, if◌then◌else◌}
use Rattle.mlk_text.specs.Lexemes.{to_last}
use Rattle.mlk_text.proofs.literal.to_last.Given as goal

abbrev pub invariant-loop-i : goal.invariant-loop-i
invariant-loop-i l = (if to_last (drop l.i l.bytes) == 0 then l.last else l.i + to_last (drop l.i l.bytes)) ≡ to_last l.bytes
