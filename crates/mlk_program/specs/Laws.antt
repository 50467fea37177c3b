-- Laws of programs: their entries have lines, the text of an entry names it, each call has a line that accepts its actuals, and
-- what a call passes by reference is shared.
use Rattle.std.specs.Prelude.{ℕ, ◌≡◌, List, Contains, Option, Some, true}
use Rattle.mlk_text.specs.Spellings.{IsName, IsLabel}
use Rattle.mlk_syntax.specs.declared.expr.Callee.{Callee}
use Rattle.mlk_syntax.specs.Trees.{RoutineTree, HeadTree, LineTrees, CallTree, Called}
use Rattle.mlk_program.specs.Entries.{name_of, lines_in, label_of, formals_of, entry_in, entry_by, target_of}
use Rattle.mlk_program.specs.Entries.{line_of_entry, text_of_entry}
use Rattle.mlk_program.specs.Program.{PlacedCall, calls_of, takes, IsProgram, passed_by, filled_by, is_shared, is_filled}
use Rattle.mlk_program.specs.declared.entry.EntryId.{EntryId}

-- an entry of these routines: the first line of one of them, or a line that a label names
abbrev pub IsEntryOf : List RoutineTree → EntryId → Type 0
IsEntryOf routines e = (r : ℕ) × (label : Option (List ℕ)) × (entry_in routines r label ≡ Some e)

-- What a text or a callee names is an entry.
abbrev pub EntriesNamed : Type 0
EntriesNamed = (routines : List RoutineTree) (e : EntryId)
    → ((text : List ℕ) → entry_by routines text ≡ Some e → IsEntryOf routines e)
    × ((own : ℕ) (callee : Callee) → target_of routines own callee ≡ Some e → IsEntryOf routines e)

-- An entry has a line.
abbrev pub EntriesHaveLines : Type 0
EntriesHaveLines = (routines : List RoutineTree) (e : EntryId) → IsEntryOf routines e
    → (l : HeadTree × LineTrees) × (line_of_entry routines e ≡ Some l)

-- a routine whose name and whose labels of level 1 have the right form
abbrev pub IsSpelled : RoutineTree → Type 0
IsSpelled tree = IsName (name_of tree) × ((l : HeadTree × LineTrees) (label : List ℕ) → Contains (lines_in tree) l
    → label_of l.0 ≡ Some label → IsLabel label)

-- If no two routines have the same name, the text of an entry names that entry. So of two texts for one entry, `^ROUTINE` and
-- one with the label of the first line, the entry's own is the one with the label.
abbrev pub TextsName : Type 0
TextsName = (routines : List RoutineTree) (e : EntryId) → IsProgram routines
    → ((tree : RoutineTree) → Contains routines tree → IsSpelled tree) → IsEntryOf routines e
    → (text : List ℕ) × (text_of_entry routines e ≡ Some text) × (entry_by routines text ≡ Some e)

-- Each call of a program has an entry, whose line accepts its actuals.
abbrev pub IsFitting : List RoutineTree → ℕ → CallTree → Type 0
IsFitting routines r (Called column callee given) = (e : EntryId) × (l : HeadTree × LineTrees)
    × (target_of routines r callee ≡ Some e) × (line_of_entry routines e ≡ Some l)
    × (takes (formals_of l.0) given ≡ true)

abbrev pub CallsFit : Type 0
CallsFit = (routines : List RoutineTree) (p : PlacedCall) → IsProgram routines → Contains (calls_of routines) p
    → IsFitting routines p.routine p.call

-- What calls share: a name that one passes by reference, and a formal that receives one, which counts as filled in the entry
-- to which it belongs.
pub record CallsShare (routines : List RoutineTree) : Type 0 where
  pub passed : (p : PlacedCall) (name : List ℕ) → Contains (calls_of routines) p → Contains (passed_by p) name
      → is_shared routines name ≡ true
  pub counted : (p : PlacedCall) (e : EntryId) (formal : List ℕ) → Contains (calls_of routines) p
      → Contains (filled_by routines p) (e, formal) → is_filled routines e formal ≡ true
  pub filled : (e : EntryId) (formal : List ℕ) → is_filled routines e formal ≡ true → is_shared routines formal ≡ true
