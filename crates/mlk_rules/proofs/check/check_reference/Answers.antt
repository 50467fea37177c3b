use Rattle.std.proofs.Common.{Some, subst}
use Rattle.std.specs.Prelude.{IfErr}
use Rattle.mlk_rules.specs.Coverage.{IsAnswer}
use Rattle.mlk_rules.proofs.check.check_reference.Goals as goal

pub returns-clause-err : goal.returns-clause-err
returns-clause-err c =
    subst (λ r. IfErr c.covered_lent.result (λ code. IsAnswer c.args.rules.now c.args.held.now r (Some code))) c.of.ensures c.covered_lent.ensures.err
