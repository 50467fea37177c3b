-- The text of a report. This project's own choice.
use Rattle.std.specs.Prelude.{ℕ, List, [], ◌∷◌, ◌++◌, Option, Some, None, codes, length}
use Rattle.std.specs.Fmt.{decimal}
use Rattle.mlk_text.specs.declared.code.Code.{Code}
use Rattle.mlk_text.specs.Codes.{number_of, word_of}
use Rattle.mlk_syntax.specs.Trees.{RoutineTree}
use Rattle.mlk_program.specs.declared.entry.EntryId.{EntryId}
use Rattle.mlk_program.specs.Entries.{text_of_entry}
use Rattle.mlk_walk.specs.declared.report.Row.{Row}
use Rattle.mlk_walk_exprs.specs.declared.walk.Fault.{Fault as WalkFault}

abbrev pub space : List ℕ
space = 32 ∷ []

abbrev pub line_end : List ℕ
line_end = 10 ∷ []

-- `CODE NAME`
abbrev pub code_text : Code → List ℕ
code_text code = decimal (number_of code) ++ space ++ word_of code

-- `line:column`
abbrev pub place_text : ℕ → ℕ → List ℕ
place_text line column = decimal line ++ codes ":" ++ decimal column

-- an entry: `LABEL^ROUTINE`, or `^ROUTINE` where its line has no label
abbrev pub or_nothing : Option (List ℕ) → List ℕ
or_nothing None = []
or_nothing (Some text) = text

abbrev pub entry_text : List RoutineTree → EntryId → List ℕ
entry_text routines e = or_nothing (text_of_entry routines e)

-- `LABEL^ROUTINE line:column CODE NAME`
abbrev pub fault_text : WalkFault → List ℕ
fault_text f = space ++ place_text f.line f.column ++ space ++ code_text f.code ++ line_end

abbrev pub row_line : List RoutineTree → Row → List ℕ
row_line routines r = entry_text routines r.entry ++ fault_text r.fault

abbrev pub row_lines : List RoutineTree → List Row → List ℕ
row_lines routines [] = []
row_lines routines (r ∷ rows) = row_line routines r ++ row_lines routines rows

-- the last line: `yes`, or `no N` with the number of rows
abbrev pub last_line : List Row → List ℕ
last_line [] = codes "yes" ++ line_end
last_line (r ∷ rows) = codes "no " ++ decimal (length (r ∷ rows)) ++ line_end

abbrev pub report_text : List RoutineTree → List Row → List ℕ
report_text routines rows = row_lines routines rows ++ last_line rows
