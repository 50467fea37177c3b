-- Members of lists, and prefixes of lists. This project's own.
use Rattle.std.specs.Prelude.{◌≡◌, ◌⊎◌, List, [], ◌∷◌, ◌++◌}

-- it is a member
abbrev pub Among : {A : Type 0} → A → List A → Type 0
Among a [] = ⊥
Among a (b ∷ bs) = (a ≡ b) ⊎ Among a bs

-- the second list is the first followed by some tail
pub record Begins {X : Type 0} (xs ys : List X) : Type 0 where
  pub tail : List X
  pub is : xs ++ tail ≡ ys
