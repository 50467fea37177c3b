-- Whether a name is among others.
use Rattle.std.proofs.Common.{◌≡◌, ℕ, zero, suc, List, [], ◌∷◌, Bool, true, false, inl, inr, refl, sym, ◌∙◌, arith, bytes_eq}
use Rattle.std.specs.Prelude.{Contains, ◌||◌}
use Rattle.std.specs.List.{list_any}
use Rattle.std.proofs.lemmas.Slice.Eq.{bytes_eq-Decides}
use Rattle.std.proofs.lemmas.List.Elements.{Contains-append_cases}
use Rattle.std.proofs.lemmas.Map.Views.{Contains-from_any}

-- Names, and whether one is among them.
abbrev pub among : List ℕ → List (List ℕ) → Bool
among q names = list_any (bytes_eq q) names

pub bytes_same : (x y : List ℕ) → bytes_eq x y ≡ true → x ≡ y
bytes_same x y h = (bytes_eq-Decides x y).0 h

pub in_one : (n x : List ℕ) → Contains (n ∷ []) x → n ≡ x
in_one n x (zero, less, is) = is
in_one n x (suc k, less, is) = absurd (omega (arith, less))

pub here : (n : List ℕ) (names : List (List ℕ)) → Contains (n ∷ names) n
here n names = (0, omega arith, refl)

pub not_in_none : (x : List ℕ) → Contains [] x → ⊥
not_in_none x (k, less, is) = omega (arith, less)

pub among_is : (q : List ℕ) (names : List (List ℕ)) → Contains names q → among q names ≡ true
among_is q [] h = absurd (not_in_none q h)
among_is q (n ∷ names) h = elim (Contains-append_cases (n ∷ []) names q h) [
  | inl first ↦ rw ((bytes_eq-Decides q n).1 (sym (in_one n q first))) refl
  | inr more ↦ rw (among_is q names more) (or_true (bytes_eq q n))
]
  where
    or_true : (b : Bool) → (b || true) ≡ true
    or_true true = refl
    or_true false = refl

pub is_among : (q : List ℕ) (names : List (List ℕ)) → among q names ≡ true → Contains names q
is_among q names h = Contains-from_any bytes_same q names h

pub not_among : (q : List ℕ) (names : List (List ℕ)) → among q names ≡ false → Contains names q → ⊥
not_among q names h c = cc (sym h ∙ among_is q names c)
