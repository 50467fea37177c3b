use Rattle.mlk_check.proofs.Replays.{safe_is_shown}
use Rattle.mlk_check.proofs.law.safe_is_shown.Goals as goal

pub returns : goal.returns
returns c = safe_is_shown
