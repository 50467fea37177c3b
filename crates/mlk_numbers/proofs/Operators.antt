-- The results of operators on known texts are those of the relations of numbers.
use Rattle.std.proofs.Common.{◌≡◌, ◌<◌, ◌≤◌, ◌^◌, ℕ, zero, suc, ℤ, pos, negsuc, true, false, List, [], ◌∷◌, ◌++◌, length, Option, Some, None, refl, sym, ap, ◌∙◌, arith, inl, inr, ⊎_elim, unsigned_abs, ltb-true, decimal}
use Rattle.std.specs.Prelude.{◌==◌, nat_lt, nat_le, neg_ℤ, option_map, option_and_then, bytes_eq, codes}
use Rattle.std.specs.Fmt.{signed_decimal}
use Rattle.std.proofs.lemmas.Bool.{cases_Bool}
use Rattle.std.proofs.lemmas.Bool.Decides.{nat_tests}
use Rattle.std.proofs.lemmas.Fmt.{decimal_injective}
use Rattle.std.proofs.lemmas.Slice.Eq.{bytes_eq-Decides}
use Rattle.mlk_numbers.specs.Numbers.{number_of_digits}
use Rattle.mlk_text.specs.Lexemes.{are_digits}
use Rattle.mlk_numbers.specs.Outcome.{Finds}
use Rattle.mlk_text.specs.declared.operator.Op.{Op}
use Rattle.mlk_text.specs.declared.operator.Op.TheVariants.{Add, Subtract, Multiply, Divide, DivideWhole, Modulo, Power, Concatenate, Is, IsNot}
use Rattle.mlk_text.specs.declared.operator.UnaryOp.{UnaryOp}
use Rattle.mlk_text.specs.declared.operator.UnaryOp.TheVariants.{Plus, Minus, Not}
use Rattle.mlk_numbers.specs.Folding.{is_short, if_short, folded, IsWhole, IsFold, IsUnaryFold}
use Rattle.mlk_numbers.proofs.WholeTexts.{plain-number, decimal-plain}
use Rattle.mlk_numbers.proofs.Folds.{folded-short, no_number}
use Rattle.mlk_numbers.specs.NumberLaws.{FoldsAre}
use Rattle.mlk_numbers.specs.Operators.{number_in, if_text_of, whole, if_joined, of_numbers, fold_between, opposite, fold_before}

short_is : (n m : ℕ) → n < m → nat_lt n m ≡ true
short_is n m h = grind (arith, nat_tests)

few_is : (n m : ℕ) → n ≤ m → nat_le n m ≡ true
few_is n m h = grind (arith, nat_tests)

few_means : (n m : ℕ) → nat_le n m ≡ true → n ≤ m
few_means n m h = grind (arith, nat_tests)

-- the number of a number's digits
digits_back : (n : ℕ) → n < 10 ^ 15 → number_of_digits (decimal n) ≡ n
digits_back n h =
    let p = plain-number (decimal n) (decimal-plain n h) in
    sym (decimal_injective n (number_of_digits (decimal n)) (omega arith) (omega (arith, p.0)) p.1)

unsigned_in : (ds : List ℕ) → are_digits ds ≡ true → number_in ds ≡ pos (number_of_digits ds)
unsigned_in [] h = refl
unsigned_in (b ∷ bs) h =
    ⊎_elim
    (λ (e : (b == 45) ≡ true). let is : b ≡ 45 = grind (arith, nat_tests) in let f : are_digits (45 ∷ bs) ≡ true = ap (λ z. are_digits (z ∷ bs)) (sym is) ∙ h in absurd (cc f))
    (λ (e : (b == 45) ≡ false). rw e refl)
    (cases_Bool (b == 45))

number_back : (z : ℤ) → unsigned_abs z < 10 ^ 15 → number_in (signed_decimal z) ≡ z
number_back (pos n) h = unsigned_in (decimal n) (decimal-plain n h).shape ∙ ap pos (digits_back n h)
number_back (negsuc n) h = ap (λ m. neg_ℤ (pos m)) (digits_back (suc n) h)

-- a text has the number whose only text it is
whole_some : (z : ℤ) (text : List ℕ) → IsWhole z text → whole text ≡ Some z
unfolding whole
whole_some z text h =
    let back : number_in text ≡ z = ap number_in h.1 ∙ number_back z h.0 in
    let short : is_short z ≡ true = short_is (unsigned_abs z) (10 ^ 15) h.0 in
    let same : bytes_eq text (signed_decimal z) ≡ true = (bytes_eq-Decides text (signed_decimal z)).1 h.1 in
    ap (λ w. if_text_of w text) back ∙ rw (short, same) refl

text_of : (z y : ℤ) (text : List ℕ) → if_text_of z text ≡ Some y → IsWhole y text
text_of z y text h =
    ⊎_elim
    (λ (e : is_short z ≡ true). ⊎_elim
    (λ (f : bytes_eq text (signed_decimal z) ≡ true).
    let s : Some z ≡ Some y = rw (e, f) at h in
    let is : z ≡ y = cc in
    (ltb-true (unsigned_abs y) (10 ^ 15) (ap is_short (sym is) ∙ e), (bytes_eq-Decides text (signed_decimal z)).0 f ∙ ap signed_decimal is))
    (λ (f : bytes_eq text (signed_decimal z) ≡ false). let s : None ≡ Some y = rw (e, f) at h in absurd (cc))
    (cases_Bool (bytes_eq text (signed_decimal z))))
    (λ (e : is_short z ≡ false). let s : None ≡ Some y = rw e at h in absurd (cc))
    (cases_Bool (is_short z))

whole_means : (z : ℤ) (text : List ℕ) → whole text ≡ Some z → IsWhole z text
unfolding whole
whole_means z text h = text_of (number_in text) z text h

-- numbers
module _ (op : Op) (a b : List ℕ) (other : op ≡ Concatenate → ⊥) where
  no_result : (o p : Option ℤ) → whole a ≡ o → whole b ≡ p → ((t : List ℕ) → IsFold op a b t → ⊥) → None ≡ of_numbers op o p
  no_result None p e f h = refl
  no_result (Some x) None e f h = refl
  no_result (Some x) (Some y) e f h = go (folded op x y) refl
    where
      go : (r : Option ℤ) → folded op x y ≡ r → None ≡ of_numbers op (Some x) (Some y)
      go None k = rw k refl
      go (Some z) k = absurd (h (signed_decimal z) (inr (x, y, z, whole_means x a e, whole_means y b f, k, (folded-short op x y z k, refl))))

  numbers_are : (found : Option (List ℕ)) → Finds (IsFold op a b) found → found ≡ of_numbers op (whole a) (whole b)
  numbers_are None h = no_result (whole a) (whole b) refl refl h
  numbers_are (Some t) (inl j) = absurd (other j.0)
  numbers_are (Some t) (inr (x, y, z, f, g, k, w)) = rw (whole_some x a f, whole_some y b g, k) (ap Some w.1)

joined_is : (a b : List ℕ) (found : Option (List ℕ)) → Finds (IsFold Concatenate a b) found → found ≡ if_joined (a ++ b)
joined_is a b None h =
    ⊎_elim
    (λ (e : nat_le (length (a ++ b)) 255 ≡ true). absurd (h (a ++ b) (inl (refl, refl, few_means (length (a ++ b)) 255 e))))
    (λ (e : nat_le (length (a ++ b)) 255 ≡ false). rw e refl)
    (cases_Bool (nat_le (length (a ++ b)) 255))
joined_is a b (Some t) (inl (e, is, few)) =
    let fits : nat_le (length (a ++ b)) 255 ≡ true = ap (λ l. nat_le (length l) 255) (sym is) ∙ few_is (length t) 255 few in
    rw fits (ap Some is)
joined_is a b (Some t) (inr (x, y, z, f, g, k, w)) = absurd (no_number x y z k)

-- the fold of two texts is the one of the relation
pub between_is : (op : Op) (a b : List ℕ) (found : Option (List ℕ)) → Finds (IsFold op a b) found → found ≡ fold_between op a b
unfolding fold_between
between_is Concatenate a b found h = joined_is a b found h
between_is Add a b found h = numbers_are Add a b (λ e. cc e) found h
between_is Subtract a b found h = numbers_are Subtract a b (λ e. cc e) found h
between_is Multiply a b found h = numbers_are Multiply a b (λ e. cc e) found h
between_is Divide a b found h = numbers_are Divide a b (λ e. cc e) found h
between_is DivideWhole a b found h = numbers_are DivideWhole a b (λ e. cc e) found h
between_is Modulo a b found h = numbers_are Modulo a b (λ e. cc e) found h
between_is Power a b found h = numbers_are Power a b (λ e. cc e) found h
between_is (Is relation) a b found h = numbers_are (Is relation) a b (λ e. cc e) found h
between_is (IsNot relation) a b found h = numbers_are (IsNot relation) a b (λ e. cc e) found h

-- operators before a text
negated_short : (x : ℤ) → unsigned_abs x < 10 ^ 15 → unsigned_abs (neg_ℤ x) < 10 ^ 15
negated_short (pos zero) h = h
negated_short (pos (suc n)) h = h
negated_short (negsuc n) h = h

plus_is : (a : List ℕ) (found : Option (List ℕ)) → Finds (IsUnaryFold Plus a) found → found ≡ option_map signed_decimal (whole a)
plus_is a (Some t) (x, w, e) = rw (whole_some x a w) (ap Some (e ∙ w.1))
plus_is a None h = go (whole a) refl
  where
    go : (o : Option ℤ) → whole a ≡ o → None ≡ option_map signed_decimal o
    go None e = refl
    go (Some x) e = absurd (h a (x, whole_means x a e, refl))

minus_is : (a : List ℕ) (found : Option (List ℕ)) → Finds (IsUnaryFold Minus a) found → found ≡ option_map signed_decimal (option_and_then (λ z. if_short (neg_ℤ z)) (whole a))
minus_is a (Some t) (x, w, n) = rw (whole_some x a w, short_is (unsigned_abs (neg_ℤ x)) (10 ^ 15) n.0) (ap Some n.1)
minus_is a None h = go (whole a) refl
  where
    go : (o : Option ℤ) → whole a ≡ o → None ≡ option_map signed_decimal (option_and_then (λ z. if_short (neg_ℤ z)) o)
    go None e = refl
    go (Some x) e = absurd (h (signed_decimal (neg_ℤ x)) (x, whole_means x a e, (negated_short x (whole_means x a e).0, refl)))

not_is : (a : List ℕ) (found : Option (List ℕ)) → Finds (IsUnaryFold Not a) found → found ≡ opposite a
not_is a (Some t) (inl (e, f)) = rw (e, f) refl
not_is a (Some t) (inr (e, f)) = rw (e, f) refl
not_is a None h =
    ⊎_elim
    (λ (e : bytes_eq a (codes "0") ≡ true). absurd (h (codes "1") (inl ((bytes_eq-Decides a (codes "0")).0 e, refl))))
    (λ (e : bytes_eq a (codes "0") ≡ false). ⊎_elim
    (λ (f : bytes_eq a (codes "1") ≡ true). absurd (h (codes "0") (inr ((bytes_eq-Decides a (codes "1")).0 f, refl))))
    (λ (f : bytes_eq a (codes "1") ≡ false). rw (e, f) refl)
    (cases_Bool (bytes_eq a (codes "1"))))
    (cases_Bool (bytes_eq a (codes "0")))

pub before_is : (op : UnaryOp) (a : List ℕ) (found : Option (List ℕ)) → Finds (IsUnaryFold op a) found → found ≡ fold_before op a
unfolding fold_before
before_is Plus a found h = plus_is a found h
before_is Minus a found h = minus_is a found h
before_is Not a found h = not_is a found h

-- what is computed is an exact result
module _ (op : Op) (a b text : List ℕ) where
  numbers_give : (o p : Option ℤ) → whole a ≡ o → whole b ≡ p → of_numbers op o p ≡ Some text → IsFold op a b text
  numbers_give None p e f h = absurd (cc h)
  numbers_give (Some x) None e f h = absurd (cc h)
  numbers_give (Some x) (Some y) e f h = go (folded op x y) refl h
    where
      go : (r : Option ℤ) → folded op x y ≡ r → option_map signed_decimal r ≡ Some text → IsFold op a b text
      go None k i = absurd (cc i)
      go (Some z) k i =
          let is : signed_decimal z ≡ text = cc i in
          inr (x, y, z, whole_means x a e, whole_means y b f, k, (folded-short op x y z k, sym is))

joins : (a b text : List ℕ) → if_joined (a ++ b) ≡ Some text → IsFold Concatenate a b text
joins a b text h =
    ⊎_elim
    (λ (e : nat_le (length (a ++ b)) 255 ≡ true).
    let s : Some (a ++ b) ≡ Some text = rw e at h in
    let is : a ++ b ≡ text = cc in
    inl (refl, sym is, few_means (length text) 255 (ap (λ l. nat_le (length l) 255) (sym is) ∙ e)))
    (λ (e : nat_le (length (a ++ b)) 255 ≡ false). let s : None ≡ Some text = rw e at h in absurd (cc))
    (cases_Bool (nat_le (length (a ++ b)) 255))

between_gives : (op : Op) (a b text : List ℕ) → fold_between op a b ≡ Some text → IsFold op a b text
unfolding fold_between
between_gives Concatenate a b text h = joins a b text h
between_gives Add a b text h = numbers_give Add a b text (whole a) (whole b) refl refl h
between_gives Subtract a b text h = numbers_give Subtract a b text (whole a) (whole b) refl refl h
between_gives Multiply a b text h = numbers_give Multiply a b text (whole a) (whole b) refl refl h
between_gives Divide a b text h = numbers_give Divide a b text (whole a) (whole b) refl refl h
between_gives DivideWhole a b text h = numbers_give DivideWhole a b text (whole a) (whole b) refl refl h
between_gives Modulo a b text h = numbers_give Modulo a b text (whole a) (whole b) refl refl h
between_gives Power a b text h = numbers_give Power a b text (whole a) (whole b) refl refl h
between_gives (Is relation) a b text h = numbers_give (Is relation) a b text (whole a) (whole b) refl refl h
between_gives (IsNot relation) a b text h = numbers_give (IsNot relation) a b text (whole a) (whole b) refl refl h

plus_gives : (a text : List ℕ) (o : Option ℤ) → whole a ≡ o → option_map signed_decimal o ≡ Some text → IsUnaryFold Plus a text
plus_gives a text None e h = absurd (cc h)
plus_gives a text (Some x) e h =
    let is : signed_decimal x ≡ text = cc h in
    (x, whole_means x a e, sym is ∙ sym (whole_means x a e).1)

minus_gives : (a text : List ℕ) (o : Option ℤ) → whole a ≡ o → option_map signed_decimal (option_and_then (λ z. if_short (neg_ℤ z)) o) ≡ Some text
    → IsUnaryFold Minus a text
minus_gives a text None e h = absurd (cc h)
minus_gives a text (Some x) e h =
    let few = negated_short x (whole_means x a e).0 in
    let s : Some (signed_decimal (neg_ℤ x)) ≡ Some text = rw (short_is (unsigned_abs (neg_ℤ x)) (10 ^ 15) few) at h in
    let is : signed_decimal (neg_ℤ x) ≡ text = cc in
    (x, whole_means x a e, (few, sym is))

not_gives : (a text : List ℕ) → opposite a ≡ Some text → IsUnaryFold Not a text
not_gives a text h =
    ⊎_elim
    (λ (e : bytes_eq a (codes "0") ≡ true).
    let s : Some (codes "1") ≡ Some text = rw e at h in
    let is : codes "1" ≡ text = cc s in
    inl ((bytes_eq-Decides a (codes "0")).0 e, sym is))
    (λ (e : bytes_eq a (codes "0") ≡ false). ⊎_elim
    (λ (f : bytes_eq a (codes "1") ≡ true).
    let s : Some (codes "0") ≡ Some text = rw (e, f) at h in
    let is : codes "0" ≡ text = cc s in
    inr ((bytes_eq-Decides a (codes "1")).0 f, sym is))
    (λ (f : bytes_eq a (codes "1") ≡ false). let s : None ≡ Some text = rw (e, f) at h in absurd (cc))
    (cases_Bool (bytes_eq a (codes "1"))))
    (cases_Bool (bytes_eq a (codes "0")))

before_gives : (op : UnaryOp) (a text : List ℕ) → fold_before op a ≡ Some text → IsUnaryFold op a text
unfolding fold_before
before_gives Plus a text h = plus_gives a text (whole a) refl h
before_gives Minus a text h = minus_gives a text (whole a) refl h
before_gives Not a text h = not_gives a text h

pub folds_are : FoldsAre
folds_are = record {
  between = λ op a b text. (between_gives op a b text, λ h. sym (between_is op a b (Some text) h));
  before = λ op a text. (before_gives op a text, λ h. sym (before_is op a (Some text) h));
}
