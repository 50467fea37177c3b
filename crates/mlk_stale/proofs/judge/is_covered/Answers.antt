use Rattle.mlk_stale.proofs.Covered.{covered_if_ok}
use Rattle.mlk_stale.proofs.judge.is_covered.Goals as goal

pub returns : goal.returns
returns c =
    rw c.is_ok.ensures.value (covered_if_ok c.args.rules.now c.args.held.now c.args.reference.now c.check_reference.result c.check_reference.ensures.ok c.check_reference.ensures.err)
