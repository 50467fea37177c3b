use Rattle.std.proofs.Common.{arith}
use Rattle.mlk_numbers.proofs.WholeTexts.{number_more, number_few, digit_within}
use Rattle.mlk_numbers.proofs.folding.number_of.Goals as goal

pub overflow_mul-number : goal.overflow_mul-number
overflow_mul-number c =
    let is = c.loop-digit.invariant in
    let few = number_few c.args.digits.now c.loop-digit.digit-index c.requires.shape c.requires.short c.loop-digit-test.true in
    omega arith

pub overflow_sub-number : goal.overflow_sub-number
overflow_sub-number c = (digit_within c.args.digits.now c.loop-digit.digit-index c.requires.shape c.loop-digit-test.true).0

pub overflow_add-number : goal.overflow_add-number
overflow_add-number c =
    let is = c.loop-digit.invariant in
    let few = number_few c.args.digits.now c.loop-digit.digit-index c.requires.shape c.requires.short c.loop-digit-test.true in
    let digit = digit_within c.args.digits.now c.loop-digit.digit-index c.requires.shape c.loop-digit-test.true in
    omega arith

pub loop-digit-preserved : goal.loop-digit-preserved
loop-digit-preserved c =
    let is = c.loop-digit.invariant in
    let more = number_more c.args.digits.now c.loop-digit.digit-index c.loop-digit-test.true in
    omega arith
