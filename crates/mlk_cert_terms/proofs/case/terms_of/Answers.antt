use Rattle.std.proofs.Common.{◌∙◌, ap, sym, Some}
use Rattle.mlk_cert_terms.proofs.Tables.{term-step}
use Rattle.mlk_cert_terms.proofs.case.terms_of.Goals as goal

pub loop-number-preserved-in_ok-put : goal.loop-number-preserved-in_ok-put
loop-number-preserved-in_ok-put c =
    term-step c.args.table.now c.loop-number.terms.items c.put.new.terms.items c.in_ok-copy_of.field-0 c.in-Some.number.now c.loop-number.left.now c.in-Some.others.now c.args.numbers.now
    (sym c.in-Some-term.ensures ∙ ap (λ z. Some z) (sym c.in_ok-copy_of.ensures)) c.in_ok-put.ensures c.in-Some.ensures.cases.0 c.loop-number.invariant.0 c.loop-number.invariant.1
