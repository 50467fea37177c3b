use Rattle.std.proofs.Common.{◌≡◌, ◌+◌, ℕ, List, length, take, drop, Some, false, sym, ap, ◌∙◌, subst, rules, arith, ltb-true}
use Rattle.std.specs.Prelude.{nat_lt}
use Rattle.mlk_numbers.specs.Numbers.{after_point, IsNumeral}
use Rattle.mlk_text.specs.Lexemes.{are_digits, digits}
use Rattle.mlk_numbers.proofs.Numerals.{no_point, no_fraction, no_digit, numeral-from}
use Rattle.mlk_numbers.proofs.numeral.parts.Goals as goal
use Rattle.mlk_numbers.proofs.numeral.parts.Goals.{then-not-are_digits-via-then-not-are_digits, then-not-are_digits-via-else-not-are_digits+then-not-has_digit}

pub returns-in_err-after : goal.returns-in_err-after
returns-in_err-after c = search (rules, no_point)

pub returns-then-not-are_digits : goal.returns-then-not-are_digits
returns-then-not-are_digits c =
    let text : List ℕ = c.args.literal.now in
    let found : List ℕ = c.in_ok-after.after.now in
    let front : c.split_at.result.0.now ≡ take (digits text) text = c.split_at.ensures.front ∙ ap (λ n. take n text) c.digits.ensures.value in
    let back : c.split_at.result.1.now ≡ drop (digits text) text = c.split_at.ensures.back ∙ ap (λ n. drop n text) c.digits.ensures.value in
    let point : after_point (drop (digits text) text) ≡ Some found = sym (c.in_ok-after.ensures ∙ ap after_point back) in
    elim c.then-not-are_digits.branch [
      | then-not-are_digits-via-then-not-are_digits w ↦ λ before after. no_fraction found before after text point (let e : are_digits found ≡ false = cc in e)
      | then-not-are_digits-via-else-not-are_digits+then-not-has_digit w ↦ λ before after.
          let none : nat_lt 0 (length c.split_at.result.0.now + length found) ≡ false = cc in
          no_digit found before after text point (subst (λ l. nat_lt 0 (length l + length found) ≡ false) front none)
    ]

pub returns : goal.returns
returns c =
    let text : List ℕ = c.args.literal.now in
    let found : List ℕ = c.in_ok-after.after.now in
    let front : c.split_at.result.0.now ≡ take (digits text) text = c.split_at.ensures.front ∙ ap (λ n. take n text) c.digits.ensures.value in
    let back : c.split_at.result.1.now ≡ drop (digits text) text = c.split_at.ensures.back ∙ ap (λ n. drop n text) c.digits.ensures.value in
    let point : after_point (drop (digits text) text) ≡ Some found = sym (c.in_ok-after.ensures ∙ ap after_point back) in
    let some = ltb-true 0 (length c.split_at.result.0.now + length found) (sym c.if-not-has_digit.ensures) in
    let size = ap length front in
    subst (λ l. IsNumeral l found text) (sym front) (numeral-from found text point (sym c.if-not-are_digits.ensures) (omega arith))
