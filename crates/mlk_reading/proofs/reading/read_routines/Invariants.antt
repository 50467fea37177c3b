use Rattle.std.proofs.Common.{◌≤◌, ◌-◌, take, length}
use Rattle.std.specs.Prelude.{map}
use Rattle.mlk_syntax.specs.Views.{routine_of}
use Rattle.mlk_reading.specs.Reading.{AreRead}
use Rattle.mlk_reading.proofs.reading.read_routines.Given as goal

abbrev pub invariant-loop-done : goal.invariant-loop-done
invariant-loop-done g l = (l.done ≤ length l.sources) × AreRead (take l.done l.sources) (map routine_of l.routines.items)

abbrev pub decreases-loop-done : goal.decreases-loop-done
decreases-loop-done g l = length l.sources - l.done
