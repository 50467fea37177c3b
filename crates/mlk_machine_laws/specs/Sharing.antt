-- Which names share a cell with names outside of a block or frame. Restates ISO/IEC 11756, parameter passing: by reference a
-- formal is its actual's variable; otherwise it is a new one.
use Rattle.std.specs.Prelude.{◌≡◌, ℕ, Bool, false, ◌||◌, List, [], ◌∷◌, ◌++◌, bytes_eq, Contains}
use Rattle.mlk_syntax.specs.Trees.{RoutineTree}
use Rattle.mlk_machine_jobs.specs.Bindings.{covers, Cell, same_cell, Fresh, ByReference, Bindings, look}
use Rattle.mlk_machine_jobs.specs.Tasks.{Job}
use Rattle.mlk_machine_laws.specs.WellFormed.{FormalsDifferIn}

-- these binders bind the name
abbrev pub binds : Bindings → List ℕ → Bool
binds [] n = false
binds (Fresh g names ∷ bs) n = covers names n || binds bs n
binds (ByReference formal cell ∷ bs) n = bytes_eq formal n || binds bs n

-- some formal is bound to the cell by reference
abbrev pub is_lent : Bindings → Cell → Bool
is_lent [] c = false
is_lent (Fresh g names ∷ bs) c = is_lent bs c
is_lent (ByReference formal cell ∷ bs) c = same_cell cell c || is_lent bs c

-- no formal list contains a name twice
abbrev pub FormalsDiffer : List RoutineTree → Type 0
FormalsDiffer routines = (tree : RoutineTree) → Contains routines tree → FormalsDifferIn tree

-- Two names, one as it is bound now and one as it was bound when there were fewer binders, share a cell only if some formal
-- is bound to that cell by reference, or if they are the same name and nothing has bound it since then.
abbrev pub SharesByReference : Job → Type 0
SharesByReference j = (front back : Bindings) → j.bindings ≡ front ++ back → (n m : List ℕ)
    → look j.bindings n ≡ look back m → is_lent j.bindings (look back m) ≡ false → (n ≡ m) × (binds front n ≡ false)
