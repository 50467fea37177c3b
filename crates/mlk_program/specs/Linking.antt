-- What linking establishes on its way through the routines. For private clauses only. This project's own.
use Rattle.std.specs.Prelude.{ℕ, ◌≡◌, ◌||◌, List, [], ◌∷◌, ◌++◌, flat_map, bytes_eq}
use Rattle.std.specs.List.{list_any}
use Rattle.mlk_syntax.specs.declared.routine.Line.{Line}
use Rattle.mlk_syntax.specs.Views.{line_of}
use Rattle.mlk_syntax.specs.Trees.{RoutineTree}
use Rattle.mlk_program.specs.declared.call.CallSite.{CallSite}
use Rattle.mlk_program.specs.Found.{site_of}
use Rattle.mlk_program.specs.Program.{PlacedCall, AreResolved, shared_by, placed, calls_in}

-- these names are added
abbrev pub Gains : List (List ℕ) → List (List ℕ) → List (List ℕ) → Type 0
Gains added old new = (name : List ℕ)
    → list_any (bytes_eq name) new ≡ (list_any (bytes_eq name) old || list_any (bytes_eq name) added)

-- All of these calls can be made, and the names that they share are added.
abbrev pub Links : List RoutineTree → List PlacedCall → List (List ℕ) → List (List ℕ) → Type 0
Links routines calls old new = AreResolved routines calls × Gains (flat_map (shared_by routines) calls) old new

-- a call of the code on a given line
abbrev pub placed_at : ℕ → ℕ → CallSite → List PlacedCall
placed_at r n site = record { routine = r; line = n; call = site_of site } ∷ []

-- the calls of a line of the code, and of its block
abbrev pub placed_in : ℕ → Line → List PlacedCall
placed_in r l = placed r (line_of l).0 ++ calls_in r (line_of l).1
