use Rattle.std.proofs.Common.{sym, ap, ◌∙◌, ◌+◌}
use Rattle.mlk_text.specs.Lexemes.{zeros}
use Rattle.mlk_numbers.proofs.Zeros.{zeros-all, zeros-some}
use Rattle.mlk_numbers.proofs.numeral.leading_zeros.Goals as goal

pub returns-then-count-before : goal.returns-then-count-before
returns-then-count-before c =
    ap (λ n. n + c.zeros.result) c.zeros-count.ensures.value ∙ ap (λ n. zeros c.args.before.now + n) c.zeros.ensures.value
    ∙ sym (zeros-all c.args.before.now c.args.after.now (sym c.zeros-count.ensures.value ∙ c.if-count-before.true))

pub returns-else-count-before : goal.returns-else-count-before
returns-else-count-before c =
    c.zeros-count.ensures.value ∙ sym (zeros-some c.args.before.now c.args.after.now (λ h. c.if-count-before.false (c.zeros-count.ensures.value ∙ h)))
