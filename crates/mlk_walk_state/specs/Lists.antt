-- Definitions on lists. This project's own.
use Rattle.std.specs.Prelude.{List, [], ◌∷◌, Option, Some, option_map, option_and_then}

-- the results for all items, or nothing if there is none for one of them
abbrev pub all_some : {A B : Type 0} → (A → Option B) → List A → Option (List B)
all_some by [] = Some []
all_some by (a ∷ items) = option_and_then (λ b. option_map (λ bs. b ∷ bs) (all_some by items)) (by a)
