use Rattle.std.proofs.Common.{◌≤◌, ◌-◌, take, length}
use Rattle.std.specs.List.{AllZip}
use Rattle.mlk_reading.specs.Answers.{IsAnswer}
use Rattle.mlk_reading.proofs.reading.read_each.Given as goal

abbrev pub invariant-loop-done : goal.invariant-loop-done
invariant-loop-done g l = (l.done ≤ length l.sources) × AllZip IsAnswer (take l.done l.sources) l.found.items

abbrev pub decreases-loop-done : goal.decreases-loop-done
decreases-loop-done g l = length l.sources - l.done
