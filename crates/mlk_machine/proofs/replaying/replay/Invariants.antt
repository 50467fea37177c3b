use Rattle.std.proofs.Common.{◌-◌, length, map, drop}
use Rattle.mlk_machine.specs.Replays.{event_of}
use Rattle.mlk_machine.proofs.ReplayLemmas.{Half}
use Rattle.mlk_machine.proofs.replaying.replay.Given as goal

abbrev pub invariant-loop-index : goal.invariant-loop-index
invariant-loop-index l =
    Half l.program l.entries (map event_of l.events) (map event_of (drop l.index l.events)) l.index l.system

abbrev pub decreases-loop-index : goal.decreases-loop-index
decreases-loop-index l = length l.events - l.index
