-- Literals, numbers and results of operators, worked out by hand.
use Rattle.std.proofs.Common.{◌≡◌, pos, negsuc, [], Some, None, refl, codes, arith, inl, inr}
use Rattle.std.specs.Fmt.{digits}
use Rattle.mlk_text.specs.declared.operator.Op.TheVariants.{Add, Subtract, Multiply, Divide, Concatenate}
use Rattle.mlk_text.specs.declared.operator.UnaryOp.TheVariants.{Minus, Not}
use Rattle.mlk_numbers.specs.Numbers.{number_of_digits, pointed, IsCanonical}
use Rattle.mlk_numbers.specs.Folding.{IsWhole, folded, IsFold, IsUnaryFold}

-- 00.50 is 5 tenths: `.5`
half : IsCanonical (codes "00.50") (codes ".5")
half = record {
  before = codes "00";
  after = codes "50";
  numerator = 5;
  places = 1;
  numeral = record { whole_part = refl; fraction = refl; some_digit = omega arith; spelled = inr refl };
  exact = record { few_before = omega arith; few_after = omega arith; significant = (2, 1, codes "5", refl, omega arith) };
  lowest = inr (λ h. absurd (omega arith));
  equal = refl;
  spelled = record { before = []; after = codes "5"; whole_part = refl; fraction = refl; no_leading_zero = λ h. absurd (omega arith); places = refl; number = refl; spelled = refl };
}

-- 000 is 0
none : IsCanonical (codes "000") (codes "0")
none = record {
  before = codes "000";
  after = [];
  numerator = 0;
  places = 0;
  numeral = record { whole_part = refl; fraction = refl; some_digit = omega arith; spelled = inl (refl, refl) };
  exact = record { few_before = omega arith; few_after = omega arith; significant = (3, 0, [], refl, omega arith) };
  lowest = inl refl;
  equal = refl;
  spelled = record { before = []; after = []; whole_part = refl; fraction = refl; no_leading_zero = λ h. absurd (omega arith); places = refl; number = refl; spelled = refl };
}

value : number_of_digits (codes "0907") ≡ 907
value = refl

with_point : pointed (codes "12") (codes "05") ≡ codes "12.05"
with_point = refl

less : IsWhole (negsuc 41) (codes "-42")
unfolding digits
less = (omega arith, refl)

sum : folded Add (pos 1) (pos 2) ≡ Some (pos 3)
sum = refl

difference : folded Subtract (pos 3) (pos 5) ≡ Some (negsuc 1)
difference = refl

product : folded Multiply (negsuc 2) (pos 7) ≡ Some (negsuc 20)
product = refl

sixteen_digits : folded Add (pos 999_999_999_999_999) (pos 1) ≡ None
sixteen_digits = refl

quotient : folded Divide (pos 6) (pos 3) ≡ None
quotient = refl

join : IsFold Concatenate (codes "A") (codes "17") (codes "A17")
join = inl (refl, refl, omega arith)

minus_zero : IsUnaryFold Minus (codes "0") (codes "0")
unfolding digits
minus_zero = (pos 0, (omega arith, refl), (omega arith, refl))

opposite : IsUnaryFold Not (codes "1") (codes "0")
opposite = inr (refl, refl)
