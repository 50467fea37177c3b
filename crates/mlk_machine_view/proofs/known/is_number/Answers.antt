use Rattle.std.proofs.Common.{◌∙◌, ℤ, subst}
use Rattle.mlk_numbers.specs.Folding.{IsWhole}
use Rattle.mlk_numbers.specs.Outcome.{Finds}
use Rattle.mlk_machine_view.proofs.KnownLemmas.{some_plus, some_minus}
use Rattle.mlk_machine_view.proofs.known.is_number.Goals as goal

pub returns-clause-plus : goal.returns-clause-plus
returns-clause-plus c =
    c.is_some.ensures
    ∙ some_plus c.args.text.now c.whole_number.result
    (subst (λ l. Finds (λ (z : ℤ). IsWhole z l) c.whole_number.result) c.as_bytes.ensures c.whole_number.ensures)

pub returns-clause-minus : goal.returns-clause-minus
returns-clause-minus c =
    c.is_some.ensures
    ∙ some_minus c.args.text.now c.whole_number.result
    (subst (λ l. Finds (λ (z : ℤ). IsWhole z l) c.whole_number.result) c.as_bytes.ensures c.whole_number.ensures)
