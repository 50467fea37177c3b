use Rattle.std.proofs.Common.{length, map}
use Rattle.mlk_syntax.specs.Views.{routine_of}
use Rattle.mlk_machine.specs.InstructionViews.{asked_of}
use Rattle.mlk_machine.proofs.FileLemmas.{SoFar}
use Rattle.mlk_machine.proofs.reading.read_events.Given as goal

abbrev pub invariant-loop-rest : goal.invariant-loop-rest
invariant-loop-rest l = SoFar (map routine_of l.program) l.bytes l.rest (map asked_of l.found.items) l.number

abbrev pub decreases-loop-rest : goal.decreases-loop-rest
decreases-loop-rest l = length l.rest
