use Rattle.std.proofs.Common.{◌≡◌, ◌≤◌, ◌+◌, drop}
use Rattle.mlk_cert.specs.Refusals.{lines_in}
use Rattle.mlk_cert.proofs.read.whole.lines_in.Given as goal

abbrev pub invariant-loop-b : goal.invariant-loop-b
invariant-loop-b l = (l.lines + lines_in (drop l.b-index l.bytes) ≡ lines_in l.bytes) × (l.lines ≤ l.b-index)
