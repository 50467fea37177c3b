-- Lists that were read, and are not read again if their texts occur again. For private clauses only.
use Rattle.std.specs.Prelude.{ℕ, ◌≡◌, Bool, true, List, ◌∷◌, ◌++◌, Option, Some}
use Rattle.mlk_cert_lexemes.specs.Reading.{listed_at}

-- before a space, the text is read as this list, which respects its limits
pub record Remembers {A : Type 0} (reads : List ℕ → Option (A × List ℕ)) (fits : List A → Bool) (list : List A)
    (text : List ℕ) : Type 0 where
  pub read : (ys : List ℕ) → listed_at reads (text ++ 32 ∷ ys) ≡ Some (list, 32 ∷ ys)
  pub fits_all : fits list ≡ true

-- the list that is found again
abbrev pub Recalls : {A : Type 0} → (List ℕ → Option (A × List ℕ)) → (List A → Bool) → List ℕ → List A → List ℕ → Type 0
Recalls reads fits bytes list rest = (listed_at reads bytes ≡ Some (list, rest)) × (fits list ≡ true)
