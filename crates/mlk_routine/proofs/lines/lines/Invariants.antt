use Rattle.std.proofs.Common.{map}
use Rattle.mlk_routine.specs.Lines.{head_of, texts_of}
use Rattle.mlk_routine.proofs.FlatLines.{FlatSoFar}
use Rattle.mlk_routine.proofs.lines.lines.Given as goal

abbrev pub invariant-loop-i : goal.invariant-loop-i
invariant-loop-i l = FlatSoFar l.dialect (texts_of l.texts) l.i (map head_of l.lines.items) l.before
