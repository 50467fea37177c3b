use Rattle.std.proofs.Common.{◌≡◌, ◌<◌, ◌^◌, decimal, refl, sym, subst}
use Rattle.std.proofs.lemmas.Bool.{false≢true}
use Rattle.mlk_numbers.specs.Folding.{IsPlain}
use Rattle.mlk_numbers.proofs.WholeTexts.{plain-number, decimal-plain}
use Rattle.mlk_numbers.proofs.folding.magnitude.Goals as goal

pub returns-then-is_plain : goal.returns-then-is_plain
returns-then-is_plain c =
    let p = plain-number c.args.digits.now (c.if-is_plain.ensures.0 refl) in
    subst (λ n. (n < 10 ^ 15) × (c.args.digits.now ≡ decimal n)) (sym c.number_of.ensures) p

pub returns-else-is_plain : goal.returns-else-is_plain
returns-else-is_plain c = λ n h. false≢true (c.if-is_plain.ensures.1 (subst IsPlain (sym h.1) (decimal-plain n h.0)))
