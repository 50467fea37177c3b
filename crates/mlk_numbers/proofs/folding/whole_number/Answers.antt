use Rattle.std.proofs.Common.{ℤ, sym, ◌∙◌, arith, rules}
use Rattle.std.proofs.lemmas.Fmt.{decimal_injective}
use Rattle.mlk_numbers.specs.Folding.{IsWhole}
use Rattle.mlk_numbers.proofs.WholeTexts.{not_negative}
use Rattle.mlk_numbers.proofs.folding.whole_number.Goals as goal

pub returns-in_err-number-2 : goal.returns-in_err-number-2
returns-in_err-number-2 c =
    let none : (z : ℤ) → IsWhole z c.args.text.now → ⊥ =
    not_negative c.args.text.now c.in-Some.digits.now (λ n few is some. c.in_err-number-2.ensures n (few, is)) (sym c.in-Some.ensures) in
    search (rules, none)

pub returns-then-number-eq0 : goal.returns-then-number-eq0
returns-then-number-eq0 c =
    not_negative c.args.text.now c.in-Some.digits.now
    (λ n few is some.
    let small = c.in_ok-number-2.ensures.0 in
    let same = decimal_injective n c.in_ok-number-2.number (omega arith) (omega arith) (sym is ∙ c.in_ok-number-2.ensures.1) in
    let zero = c.if-number-eq0.true in
    absurd (omega arith))
    (sym c.in-Some.ensures)
