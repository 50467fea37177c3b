use Rattle.mlk_machine.proofs.RunLemmas.{replays_are_runs}
use Rattle.mlk_machine.proofs.law.replays_are_runs.Goals as goal

pub returns : goal.returns
returns c = replays_are_runs
