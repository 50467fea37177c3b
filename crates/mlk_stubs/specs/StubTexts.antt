-- Which texts are stubs, one after another. This project's own choice.
use Rattle.std.specs.Prelude.{ℕ, ◌≡◌, List, flat_map, All}
use Rattle.mlk_dialect.specs.declared.dialect.Dialect.TheVariants as dialect
use Rattle.mlk_syntax.specs.Trees.{RoutineTree}
use Rattle.mlk_routine.specs.RoutineGrammar.{IsRoutine}

-- A text under a name, which is read as a routine of this name.
abbrev pub IsStub : List ℕ × List ℕ → Type 0
IsStub stub = (tree : RoutineTree) × IsRoutine dialect.Standard stub.0 tree stub.1

-- The bytes are the texts of some stubs, one after another.
abbrev pub AreStubs : List ℕ → Type 0
AreStubs bytes = (stubs : List (List ℕ × List ℕ)) × (bytes ≡ flat_map (λ stub. stub.1) stubs) × All IsStub stubs
