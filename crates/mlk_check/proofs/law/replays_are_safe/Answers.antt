use Rattle.mlk_check.proofs.Replays.{replays_are_safe}
use Rattle.mlk_check.proofs.law.replays_are_safe.Goals as goal

pub returns : goal.returns
returns c = replays_are_safe
