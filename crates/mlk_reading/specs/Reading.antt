-- What it is to read the texts of routines: each has a tree, or one of them is the first that is refused. This project's
-- own choice.
use Rattle.std.specs.Prelude.{◌≡◌, List, [], ◌∷◌, ◌++◌}
use Rattle.mlk_text.specs.declared.fault.Fault.{Fault}
use Rattle.mlk_text.specs.declared.failure.Failure.{Failure}
use Rattle.mlk_text.specs.declared.failure.Failure.TheVariants as failure
use Rattle.mlk_syntax.specs.Trees.{RoutineTree}
use Rattle.mlk_routine.specs.RoutineGrammar.{IsRoutine}
use Rattle.mlk_routine.specs.Refusals.{NoRoutine, Places}
use Rattle.mlk_reading.specs.declared.source.Source.{Source}

-- the tree is written by the file's stem and its text, in its dialect
abbrev pub IsRead : Source → RoutineTree → Type 0
IsRead source tree = IsRoutine source.dialect source.stem.now tree source.text.items

-- each tree is written by its file, and there are no others
abbrev pub AreRead : List Source → List RoutineTree → Type 0
AreRead [] [] = Unit {0}
AreRead [] (tree ∷ trees) = ⊥
AreRead (source ∷ sources) [] = ⊥
AreRead (source ∷ sources) (tree ∷ trees) = IsRead source tree × AreRead sources trees

-- the first routine that is refused: those before it are read
pub record IsFirstRefused (sources : List Source) (fault : Fault) : Type 0 where
  pub front : List Source
  pub source : Source
  pub after : List Source
  pub cut : sources ≡ front ++ source ∷ after
  pub trees : List RoutineTree
  pub read : AreRead front trees
  pub none : NoRoutine source.dialect source.stem.now source.text.items (failure.Refused fault)
  pub place : Places source.stem.now source.text.items (failure.Refused fault)

-- the refusal of texts. Want of memory says nothing.
abbrev pub RefusesFirst : List Source → Failure Fault → Type 0
RefusesFirst sources failure.OutOfMemory = Unit {0}
RefusesFirst sources (failure.Refused fault) = IsFirstRefused sources fault
