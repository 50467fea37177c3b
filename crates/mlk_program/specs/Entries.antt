-- The entries of routines, and the entry that a call names. Standard: routine, label, entryref, labelref.
use Rattle.std.specs.Prelude.{ℕ, suc, List, [], ◌∷◌, ◌++◌, Bool, true, false, Option, Some, None, option_map}
use Rattle.std.specs.Prelude.{option_and_then, position, slice_get, bytes_eq, is_some, is_none, take_while, count_by, ◌+◌, drop, length}
use Rattle.std.specs.Prelude.{◌&&◌, ◌==◌}
use Rattle.mlk_text.specs.Lexemes.{entry_of}
use Rattle.mlk_syntax.specs.declared.expr.Callee.{Callee}
use Rattle.mlk_syntax.specs.Trees.{RoutineTree, Named_routine, LineTrees, no_lines, line, HeadTree, LineHead}
use Rattle.mlk_program.specs.declared.entry.EntryId.{EntryId}

-- Entries are compared as entries, never by their texts.
abbrev pub same_entry : EntryId → EntryId → Bool
same_entry e f = (e.routine == f.routine) && (e.line == f.line)

abbrev pub name_of : RoutineTree → List ℕ
name_of (Named_routine name lines) = name

-- lines of one level as a list, each with its block
abbrev pub as_lines : LineTrees → List (HeadTree × LineTrees)
as_lines no_lines = []
as_lines (line head block rest) = (head, block) ∷ as_lines rest

-- a routine's lines of level 1
abbrev pub lines_in : RoutineTree → List (HeadTree × LineTrees)
lines_in (Named_routine name lines) = as_lines lines

abbrev pub label_of : HeadTree → Option (List ℕ)
label_of (LineHead number level end label formals commands) = label

abbrev pub formals_of : HeadTree → Option (List (List ℕ))
formals_of (LineHead number level end label formals commands) = formals

abbrev pub is_label : List ℕ → Option (List ℕ) → Bool
is_label label None = false
is_label label (Some other) = bytes_eq label other

-- The index of the routine's line that a label names: the first that has it. Without a label it is the first line.
abbrev pub line_named : Option (List ℕ) → List (HeadTree × LineTrees) → Option ℕ
line_named None lines = position (λ l. true) lines
line_named (Some label) lines = position (λ l. is_label label (label_of l.0)) lines

-- the index of the routine with the given name
abbrev pub routine_named : List RoutineTree → List ℕ → Option ℕ
routine_named routines name = position (λ r. bytes_eq name (name_of r)) routines

-- the entry that a label names in a routine
abbrev pub entry_in : List RoutineTree → ℕ → Option (List ℕ) → Option EntryId
entry_in routines r label = option_and_then
    (λ tree. option_map (λ l. record { routine = r; line = l }) (line_named label (lines_in tree))) (slice_get routines r)

-- The entry that a callee names in a routine: a label alone is one of that routine, a routine alone means its first line.
abbrev pub routine_called : List RoutineTree → ℕ → Option (List ℕ) → Option ℕ
routine_called routines own None = Some own
routine_called routines own (Some name) = routine_named routines name

abbrev pub target_of : List RoutineTree → ℕ → Callee → Option EntryId
target_of routines own callee = option_and_then (λ r. entry_in routines r callee.label)
    (routine_called routines own callee.routine)

-- The entry that a text names: `LABEL^ROUTINE`, or `^ROUTINE` for the first line, even if that has a label.
abbrev pub asked : List ℕ → Option (List ℕ)
asked [] = None
asked (b ∷ label) = Some (b ∷ label)

abbrev pub entry_by : List RoutineTree → List ℕ → Option EntryId
entry_by routines text = option_and_then (λ parts. option_and_then (λ r. entry_in routines r (asked parts.0))
    (routine_named routines parts.1)) (entry_of text)

-- The text of an entry: `LABEL^ROUTINE`, or `^ROUTINE` if its line has no label; nothing if it is not in the routines.
abbrev pub text_with : Option (List ℕ) → List ℕ → List ℕ
text_with None routine = 94 ∷ routine
text_with (Some label) routine = label ++ 94 ∷ routine

abbrev pub text_in : ℕ → RoutineTree → Option (List ℕ)
text_in n tree = option_map (λ l. text_with (label_of l.0) (name_of tree)) (slice_get (lines_in tree) n)

abbrev pub text_of_entry : List RoutineTree → EntryId → Option (List ℕ)
text_of_entry routines e = option_and_then (text_in e.line) (slice_get routines e.routine)

-- an entry's own line; nothing if it is not in the routines
abbrev pub line_of_entry : List RoutineTree → EntryId → Option (HeadTree × LineTrees)
line_of_entry routines e = option_and_then (λ tree. slice_get (lines_in tree) e.line) (slice_get routines e.routine)

abbrev pub has_no_formals : HeadTree × LineTrees → Bool
has_no_formals l = is_none (formals_of l.0)

-- The lines of an entry: from its own to the routine's end, or up to the next line that has a formal list. That a job stops there
-- is this project's own choice.
abbrev pub up_to_formals : List (HeadTree × LineTrees) → List (HeadTree × LineTrees)
up_to_formals [] = []
up_to_formals (l ∷ later) = l ∷ take_while has_no_formals later

abbrev pub lines_from : ℕ → Option RoutineTree → List (HeadTree × LineTrees)
lines_from n None = []
lines_from n (Some tree) = up_to_formals (drop n (lines_in tree))

abbrev pub lines_of : List RoutineTree → EntryId → List (HeadTree × LineTrees)
lines_of routines e = lines_from e.line (slice_get routines e.routine)

-- The line after an entry's lines, which has a formal list; there is none if they extend to the routine's end.
abbrev pub line_after : List RoutineTree → EntryId → Option (HeadTree × LineTrees)
line_after routines e = line_of_entry routines (record e { line = e.line + length (lines_of routines e) })

-- The number of entries of a routine: its first line, and each further line with a label.
abbrev pub has_label : HeadTree × LineTrees → Bool
has_label l = is_some (label_of l.0)

abbrev pub entries_among : List (HeadTree × LineTrees) → ℕ
entries_among [] = 0
entries_among (first ∷ lines) = suc (count_by has_label lines)

abbrev pub entry_count : List RoutineTree → ℕ
entry_count [] = 0
entry_count (tree ∷ routines) = entries_among (lines_in tree) + entry_count routines
