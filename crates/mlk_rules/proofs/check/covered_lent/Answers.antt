use Rattle.mlk_rules.proofs.Grouping.{answer_ok, answer_err, unruled}
use Rattle.mlk_rules.proofs.check.covered_lent.Goals as goal

pub returns-in-Some-clause-ok : goal.returns-in-Some-clause-ok
returns-in-Some-clause-ok c =
    answer_ok c.args.rules.now c.args.held.now c.args.reference.now c.in-Some.group.now c.covered_by.result (rw c.root.ensures at c.in-Some.ensures) c.covered_by.ensures.ok

pub returns-in-Some-clause-err : goal.returns-in-Some-clause-err
returns-in-Some-clause-err c =
    answer_err c.args.rules.now c.args.held.now c.args.reference.now c.in-Some.group.now c.covered_by.result (rw c.root.ensures at c.in-Some.ensures) c.covered_by.ensures.err

pub returns-in-None-clause-err : goal.returns-in-None-clause-err
returns-in-None-clause-err c = unruled c.args.rules.now c.args.reference.now (rw c.root.ensures at c.in-None.ensures)
