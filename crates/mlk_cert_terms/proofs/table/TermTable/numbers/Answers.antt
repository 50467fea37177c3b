use Rattle.mlk_cert_terms.proofs.Tables.{grows-through, numbers-step}
use Rattle.mlk_cert_terms.proofs.table.TermTable.numbers.Goals as goal

pub loop-term-preserved : goal.loop-term-preserved
loop-term-preserved c =
    let grown = c.number.ensures.grows in
    let known = c.loop-term.invariant in
    let step = numbers-step c.loop-term.self c.number.new.self c.loop-term.found.items c.put_number.new.numbers.items c.in_ok-number.number c.in-Some.term.now c.loop-term.left.now c.in-Some.others.now
    c.args.terms.now grown c.in_ok-number.ensures.at c.in_ok-put_number.ensures c.in-Some.ensures.cases.0 known.1 known.2 in
    (grows-through c.args.self.now c.loop-term.self c.number.new.self known.0 grown, step.0, step.1)
