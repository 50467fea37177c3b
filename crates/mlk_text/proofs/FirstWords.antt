-- Comparing bytes by their first eight, if the rest is zero.
use Rattle.std.proofs.Common.{◌≡◌, ◌≤◌, ◌<◌, ◌-◌, ◌^◌, ◌∙◌, ◌∷◌, ◌++◌, ◌==◌, [], ℕ, List, true, false, zero, suc, take, drop, replicate, get_or, bytes_eq, sym, ap, subst, arith, ⊎_elim}
use Rattle.std.specs.Int.{w64, to_le_bytes, from_le_bytes}
use Rattle.std.proofs.lemmas.Bool.{cases_Bool}
use Rattle.std.proofs.lemmas.Bool.Decides.{nat_tests}
use Rattle.std.proofs.lemmas.Nat.{from_le_bytes-to_le_bytes_8}
use Rattle.std.proofs.lemmas.List.{take-take, take-append-drop}
use Rattle.std.proofs.lemmas.Slice.Eq.{bytes_eq-Decides}

-- the first elements of a list of bytes are bytes
pub small_taken : (n : ℕ) (bs : List ℕ) → ((i : ℕ) → get_or bs i 0 < 256) → (i : ℕ) → get_or (take n bs) i 0 < 256
small_taken zero bs small i = omega arith
small_taken (suc n) [] small i = omega arith
small_taken (suc n) (b ∷ bs) small zero = small 0
small_taken (suc n) (b ∷ bs) small (suc i) = small_taken n bs (λ j. small (suc j)) i

module _ (N m : ℕ) (bs cs : List ℕ) (few : m ≤ 8) (after : drop m bs ≡ replicate (N - m) 0) (after_others : drop m cs ≡ replicate (N - m) 0) where
  -- the first eight decide about the first `m` of them
  taken : take 8 bs ≡ take 8 cs → bytes_eq (take m bs) (take m cs) ≡ true
  taken word = (bytes_eq-Decides (take m bs) (take m cs)).1 (sym (take-take m 8 bs few) ∙ ap (take m) word ∙ take-take m 8 cs few)

  -- and those decide about all
  all : take m bs ≡ take m cs → bs ≡ cs
  all e = sym (take-append-drop m bs) ∙ ap (λ t. t ++ drop m bs) e ∙ ap (λ t. take m cs ++ t) (after ∙ sym after_others) ∙ take-append-drop m cs

  words_tell : (v w : ℕ) → v < 2 ^ 64 → w < 2 ^ 64 → to_le_bytes w64 v ≡ take 8 bs → to_le_bytes w64 w ≡ take 8 cs
      → (v == w) ≡ bytes_eq (take m bs) (take m cs)
  words_tell v w f g p q = ⊎_elim
      (λ (e : v == w ≡ true). let is : v ≡ w = grind (arith, nat_tests, e) in e ∙ sym (taken (sym p ∙ ap (to_le_bytes w64) is ∙ q)))
      (λ (e : v == w ≡ false). e ∙ ⊎_elim
      (λ (t : bytes_eq (take m bs) (take m cs) ≡ true).
      let same = all ((bytes_eq-Decides (take m bs) (take m cs)).0 t) in
      let is : v ≡ w = sym (from_le_bytes-to_le_bytes_8 v f) ∙ ap (from_le_bytes w64) (p ∙ ap (take 8) same ∙ sym q) ∙ from_le_bytes-to_le_bytes_8 w g in
      absurd (grind (arith, nat_tests, e, is)))
      (λ (t : bytes_eq (take m bs) (take m cs) ≡ false). sym t)
      (cases_Bool (bytes_eq (take m bs) (take m cs))))
      (cases_Bool (v == w))

-- whether the lists are equal is decided by their first eight bytes
pub words_decide : (N m n : ℕ) (bs cs : List ℕ) → m ≤ 8 → m ≡ n → drop m bs ≡ replicate (N - m) 0 → drop n cs ≡ replicate (N - n) 0
    → (v w : ℕ) → v < 2 ^ 64 → w < 2 ^ 64 → to_le_bytes w64 v ≡ take 8 bs → to_le_bytes w64 w ≡ take 8 cs
    → (v == w) ≡ bytes_eq (take m bs) (take n cs)
words_decide N m n bs cs few same after others v w f g p q =
    subst (λ k. (v == w) ≡ bytes_eq (take m bs) (take k cs)) same
    (words_tell N m bs cs few after (subst (λ k. drop k cs ≡ replicate (N - k) 0) (sym same) others) v w f g p q)

-- the zeros that are left
zeros : (k l : ℕ) → k ≡ l → replicate {A = ℕ} k 0 ≡ replicate l 0
zeros k l e = ap (λ j. replicate {A = ℕ} j 0) e

pub zeros_left : (m n : ℕ) → drop {A = ℕ} m (replicate n 0) ≡ replicate (n - m) 0
zeros_left zero n = zeros n (n - 0) (omega arith)
zeros_left (suc m) zero = zeros 0 (0 - suc m) (omega arith)
zeros_left (suc m) (suc n) = zeros_left m n ∙ zeros (n - m) (suc n - suc m) (omega arith)
