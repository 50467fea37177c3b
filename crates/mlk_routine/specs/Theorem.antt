-- Laws of the grammar of routines.
use Rattle.std.specs.Prelude.{ℕ, ◌≡◌, List}
use Rattle.mlk_dialect.specs.declared.dialect.Dialect.{Dialect}
use Rattle.mlk_syntax.specs.Trees.{LineTrees, RoutineTree}
use Rattle.mlk_routine.specs.RoutineGrammar.{AreCut, heads_of, AreNested, IsRoutine}

-- A text has one list of lines.
abbrev pub OneCut : Type 0
OneCut = (lines others : List (List ℕ)) (text : List ℕ) → AreCut lines text → AreCut others text → lines ≡ others

-- Consecutive lines are nested in one way.
abbrev pub OneNesting : Type 0
OneNesting = (level : ℕ) (a b : LineTrees) → AreNested level a → AreNested level b → heads_of a ≡ heads_of b → a ≡ b

-- In each dialect a text, with the stem of its file, has at most one tree.
abbrev pub OneTree : Type 0
OneTree = (d : Dialect) (stem text : List ℕ) (a b : RoutineTree) → IsRoutine d stem a text → IsRoutine d stem b text → a ≡ b
