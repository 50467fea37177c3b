-- Whether a list has an item. This project's own.
use Rattle.std.specs.Prelude.{◌≡◌, ◌⊎◌, Bool, true, false, List, [], ◌∷◌}

abbrev pub is_some_there : {X : Type 0} → List X → Bool
is_some_there [] = false
is_some_there (x ∷ xs) = true
