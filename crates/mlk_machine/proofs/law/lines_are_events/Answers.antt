use Rattle.mlk_machine.proofs.RunLemmas.{lines_are_events}
use Rattle.mlk_machine.proofs.law.lines_are_events.Goals as goal

pub returns : goal.returns
returns c = lines_are_events
