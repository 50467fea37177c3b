-- The plain byte order of texts: any two are in order, one way or the other.
use Rattle.std.proofs.Common.{◌≡◌, ◌∙◌, ℕ, Bool, true, false, List, [], ◌∷◌, refl, sym, ap, arith, ⊎_elim}
use Rattle.std.specs.Prelude.{◌==◌, nat_lt, if◌then◌else◌}
use Rattle.std.proofs.lemmas.Bool.{cases_Bool, eqb-true}
use Rattle.std.proofs.lemmas.Bool.Decides.{nat_tests}
use Rattle.mlk_cert_lexemes.specs.Lists.{upto}
use Rattle.mlk_cert_lexemes.proofs.Formats.{same-eqb}

same-turned : (x y : ℕ) → (x == y) ≡ true → (y == x) ≡ true
same-turned x y h = grind (arith, nat_tests)

other-turned : (x y : ℕ) → (x == y) ≡ false → (y == x) ≡ false
other-turned x y h = grind (arith, nat_tests)

above : (x y : ℕ) → (x == y) ≡ false → nat_lt x y ≡ false → nat_lt y x ≡ true
above x y h k = grind (arith, nat_tests)

not-both : (x y : ℕ) → nat_lt x y ≡ true → nat_lt y x ≡ false
not-both x y h = grind (arith, nat_tests)

pub upto-self : (xs : List ℕ) → upto xs xs ≡ true
upto-self [] = refl
upto-self (x ∷ xs) = rw (same-eqb x) (upto-self xs)

pub upto-total : (xs ys : List ℕ) → upto xs ys ≡ false → upto ys xs ≡ true
upto-total [] ys h = absurd (cc h)
upto-total (x ∷ xs) [] h = refl
upto-total (x ∷ xs) (y ∷ ys) h =
    ⊎_elim (λ (e : (x == y) ≡ true). let f : upto xs ys ≡ false = rw e at h in rw (same-turned x y e) (upto-total xs ys f))
    (λ (e : (x == y) ≡ false). let f : nat_lt x y ≡ false = rw e at h in rw (other-turned x y e) (above x y e f))
    (cases_Bool (x == y))

pub upto-both : (xs ys : List ℕ) → upto xs ys ≡ true → upto ys xs ≡ true → xs ≡ ys
upto-both [] [] h k = refl
upto-both [] (y ∷ ys) h k = cc k
upto-both (x ∷ xs) [] h k = cc h
upto-both (x ∷ xs) (y ∷ ys) h k =
    ⊎_elim
    (λ (e : (x == y) ≡ true).
    ap (λ z. z ∷ xs) (eqb-true x y e) ∙ ap (λ z. y ∷ z) (upto-both xs ys (rw e at h) (rw (same-turned x y e) at k)))
    (λ (e : (x == y) ≡ false).
    let f : nat_lt x y ≡ true = rw e at h in
    let g : nat_lt y x ≡ true = rw (other-turned x y e) at k in
    let n : true ≡ false = sym g ∙ not-both x y f in
    cc n)
    (cases_Bool (x == y))

not-step : (u v w : Bool) (x y z : ℕ) → (u ≡ false → v ≡ false → w ≡ false) → (if y == x then u else nat_lt y x) ≡ false
    → (if z == y then v else nat_lt z y) ≡ false → (if z == x then w else nat_lt z x) ≡ false
not-step u v w x y z next h k = grind (arith, nat_tests)

-- what is above a text is above all that are not above that one
pub not-through : (a b c : List ℕ) → upto b a ≡ false → upto c b ≡ false → upto c a ≡ false
not-through a [] c h k = cc h
not-through a (y ∷ b) [] h k = cc k
not-through [] (y ∷ b) (z ∷ c) h k = refl
not-through (x ∷ a) (y ∷ b) (z ∷ c) h k = not-step (upto b a) (upto c b) (upto c a) x y z (not-through a b c) h k
