use Rattle.mlk_stale.proofs.Covered.{not_if}
use Rattle.mlk_stale.proofs.judge.needs_lock.Goals as goal

pub returns : goal.returns
returns c = not_if c.is_covered.result c.is_covered.ensures
