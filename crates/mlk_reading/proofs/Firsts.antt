-- What is read before the first refusal.
use Rattle.std.proofs.Common.{◌≡◌, ◌++◌, ◌∷◌, [], List, Result, Ok, Err, refl, ap, ◌∙◌, append_assoc, subst}
use Rattle.std.specs.Prelude.{map, IfErr}
use Rattle.std.specs.List.{AllZip}
use Rattle.mlk_syntax.specs.declared.routine.Routine.{Routine}
use Rattle.mlk_syntax.specs.Views.{routine_of}
use Rattle.mlk_text.specs.declared.fault.Fault.{Fault}
use Rattle.mlk_text.specs.declared.failure.Failure.{Failure}
use Rattle.mlk_text.specs.declared.failure.Failure.TheVariants as failure
use Rattle.mlk_syntax.specs.Trees.{RoutineTree}
use Rattle.mlk_routine.specs.Refusals.{NoRoutine, Places}
use Rattle.mlk_reading.specs.declared.source.Source.{Source}
use Rattle.mlk_reading.specs.Reading.{IsRead, AreRead, RefusesFirst}
use Rattle.mlk_reading.specs.Answers.{IsAnswer, IsFirstError}

pub first-refused : (sources front after : List Source) (source : Source) (trees : List RoutineTree) (e : Failure Fault)
    → sources ≡ front ++ source ∷ after → AreRead front trees → NoRoutine source.dialect source.stem.now source.text.items e → Places source.stem.now source.text.items e
    → RefusesFirst sources e
first-refused sources front after source trees failure.OutOfMemory cut read none place = record {}
first-refused sources front after source trees (failure.Refused fault) cut read none place = record {
  front = front;
  source = source;
  after = after;
  cut = cut;
  trees = trees;
  read = read;
  none = none;
  place = place;
}

-- where all answers are routines, these are read
pub all-answered : (sources : List Source) (read : List Routine) → AllZip IsAnswer sources (map Ok read) → AreRead sources (map routine_of read)
all-answered [] [] are = record {}
all-answered [] (r ∷ read) are = absurd are
all-answered (s ∷ sources) [] are = absurd are
all-answered (s ∷ sources) (r ∷ read) are = (are.0, all-answered sources read are.1)

one-before : (sources : List Source) (source : Source) (tree : RoutineTree) (e : Failure Fault) → IsRead source tree → RefusesFirst sources e → RefusesFirst (source ∷ sources) e
one-before sources source tree failure.OutOfMemory read refused = record {}
one-before sources source tree (failure.Refused fault) read refused = record {
  front = source ∷ refused.front;
  source = refused.source;
  after = refused.after;
  cut = ap (λ l. source ∷ l) refused.cut;
  trees = tree ∷ refused.trees;
  read = (read, refused.read);
  none = refused.none;
  place = refused.place;
}

-- the first answer that is none is the first refusal
pub first-answered : (sources : List Source) (read : List Routine) (e : Failure Fault) (after : List (Result Routine (Failure Fault)))
    → AllZip IsAnswer sources (map Ok read ++ Err e ∷ after) → RefusesFirst sources e
first-answered [] [] e after are = absurd are
first-answered [] (r ∷ read) e after are = absurd are
first-answered (s ∷ sources) [] e after are = first-refused (s ∷ sources) [] sources s [] e refl (record {}) are.0.0 are.0.1
first-answered (s ∷ sources) (r ∷ read) e after are = one-before sources s (routine_of r) e are.0 (first-answered sources read e after are.1)

pub first_error : (sources : List Source) (answers : List (Result Routine (Failure Fault))) {A : Type 0} (r : Result A (Failure Fault))
    → AllZip IsAnswer sources answers → IfErr r (IsFirstError answers) → IfErr r (RefusesFirst sources)
first_error sources answers (Ok a) are told = told
first_error sources answers (Err failure.OutOfMemory) are told = record {}
first_error sources answers (Err (failure.Refused fault)) are told =
    first-answered sources told.read (failure.Refused fault) told.after (subst (AllZip IsAnswer sources) told.cut are)

-- more that is read after what is read
pub many-more : (front next : List Source) (trees more : List RoutineTree) → AreRead front trees → AreRead next more → AreRead (front ++ next) (trees ++ more)
many-more [] next [] more read then = then
many-more [] next (t ∷ trees) more read then = absurd read
many-more (s ∷ front) next [] more read then = absurd read
many-more (s ∷ front) next (t ∷ trees) more read then = (read.0, many-more front next trees more read.1 then)

-- a refusal is one whatever comes after it, and after what is read
more-after : (next after : List Source) (e : Failure Fault) → RefusesFirst next e → RefusesFirst (next ++ after) e
more-after next after failure.OutOfMemory refused = record {}
more-after next after (failure.Refused fault) refused = record {
  front = refused.front;
  source = refused.source;
  after = refused.after ++ after;
  cut = ap (λ l. l ++ after) refused.cut ∙ append_assoc refused.front (refused.source ∷ refused.after) after;
  trees = refused.trees;
  read = refused.read;
  none = refused.none;
  place = refused.place;
}

pub later-refused : (front next after : List Source) (trees : List RoutineTree) (e : Failure Fault) → AreRead front trees → RefusesFirst next e → RefusesFirst (front ++ (next ++ after)) e
later-refused [] next after [] e read refused = more-after next after e refused
later-refused [] next after (t ∷ trees) e read refused = absurd read
later-refused (s ∷ front) next after [] e read refused = absurd read
later-refused (s ∷ front) next after (t ∷ trees) e read refused = one-before (front ++ (next ++ after)) s t e read.0 (later-refused front next after trees e read.1 refused)
