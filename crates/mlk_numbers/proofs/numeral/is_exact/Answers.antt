use Rattle.std.proofs.Common.{◌≤◌, ◌+◌, ◌++◌, ℕ, List, arith, length-append, append-nil, refl, sym}
use Rattle.std.proofs.lemmas.Bool.{leb-true, le-leb}
use Rattle.mlk_numbers.proofs.Zeros.{zeros-within, significant-from, significant-to}
use Rattle.mlk_numbers.proofs.numeral.is_exact.Goals as goal

pub overflow_add-result : goal.overflow_add-result
overflow_add-result c =
    let digits : List ℕ = c.args.before.now ++ c.args.after.now in
    let within = zeros-within digits in
    let size = length-append c.args.before.now c.args.after.now in
    omega arith

pub returns : goal.returns
returns c =
    let digits : List ℕ = c.args.before.now ++ c.args.after.now in (
      λ e.
          let few : c.up_to_last.result ≤ c.leading_zeros.result + 15 = leb-true c.up_to_last.result (c.leading_zeros.result + 15) e in
          record {
            few_before = c.if-before-gt-MOST_DIGITS.false;
            few_after = c.if-after-gt-MOST_DIGITS.false;
            significant = significant-from 15 digits (omega arith);
          },
      λ x.
          let few = significant-to 15 digits x.significant in
          le-leb c.up_to_last.result (c.leading_zeros.result + 15) (omega arith),
    )

pub returns-then-before-after-le-MOST_SIGNIFICANT : goal.returns-then-before-after-le-MOST_SIGNIFICANT
returns-then-before-after-le-MOST_SIGNIFICANT c =
    let digits : List ℕ = c.args.before.now ++ c.args.after.now in
    let size = length-append c.args.before.now c.args.after.now in
    let few = c.if-before-after-le-MOST_SIGNIFICANT.true in (
      λ e. record {
        few_before = c.if-before-gt-MOST_DIGITS.false;
        few_after = c.if-after-gt-MOST_DIGITS.false;
        significant = (0, 0, digits, sym (append-nil digits), omega arith);
      },
      λ x. refl,
    )
