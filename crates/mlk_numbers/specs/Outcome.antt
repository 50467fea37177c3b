-- The result of a search. This project's own.
use Rattle.std.specs.Prelude.{Option, Some, None}

-- What was found has the property; if nothing was found, nothing has it.
abbrev pub Finds : {A : Type 0} → (A → Type 0) → Option A → Type 0
Finds {A = A} P None = (a : A) → P a → ⊥
Finds P (Some a) = P a
