use Rattle.mlk_stale.proofs.Covered.{not_if}
use Rattle.mlk_stale.proofs.judge.is_open.Goals as goal

pub returns : goal.returns
returns c = not_if c.is_protected.result c.is_protected.ensures
