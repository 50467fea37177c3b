use Rattle.mlk_replay_dialogue.specs.Entering.{AreReplayed}
use Rattle.mlk_dialogue.proofs.dialogue.ask_events.Given as goal

abbrev pub invariant-loop : goal.invariant-loop
invariant-loop g l = AreReplayed l.subject.program.now l.subject.entries.now l.entered
