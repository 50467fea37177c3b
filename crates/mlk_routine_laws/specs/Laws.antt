-- Laws of routines that were read.
use Rattle.std.specs.Prelude.{ℕ, List}
use Rattle.mlk_dialect.specs.declared.dialect.Dialect.{Dialect}
use Rattle.mlk_syntax.specs.Trees.{RoutineTree}
use Rattle.mlk_routine.specs.RoutineGrammar.{IsRoutine}
use Rattle.mlk_program.specs.Laws.{IsSpelled}
use Rattle.mlk_machine_laws.specs.WellFormed.{IsWellFormed}

-- The names and labels of routines that were read have the right form.
abbrev pub RoutinesSpelled : Type 0
RoutinesSpelled = (d : Dialect) (stem text : List ℕ) (tree : RoutineTree) → IsRoutine d stem tree text → IsSpelled tree

-- Every tree that a text spells is well formed.
abbrev pub WellFormed : Type 0
WellFormed = (d : Dialect) (stem text : List ℕ) (tree : RoutineTree) → IsRoutine d stem tree text → IsWellFormed tree
