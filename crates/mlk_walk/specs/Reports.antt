-- The report of a program: for each entry that is certified or declared, in the program's order, the faults of its verdict. This
-- project's own choice.
use Rattle.std.specs.Prelude.{ℕ, suc, Bool, ◌||◌, ◌==◌, if◌then◌else◌, List, [], ◌∷◌, ◌++◌, map, flat_map, is_some, is_none, find}
use Rattle.std.specs.Prelude.{Option}
use Rattle.mlk_text.specs.Lexemes.{or_else}
use Rattle.mlk_syntax.specs.Trees.{RoutineTree, HeadTree, LineTrees}
use Rattle.mlk_program.specs.declared.entry.EntryId.{EntryId}
use Rattle.mlk_program.specs.Entries.{lines_in, has_label, entry_by}
use Rattle.mlk_rules.specs.declared.rules.RuleLists.{RuleLists}
use Rattle.mlk_cert_parts.specs.declared.block.EntryCert.{EntryCert}
use Rattle.mlk_walk_exprs.specs.declared.walk.Fault.{Fault}
use Rattle.mlk_walk_state.specs.Scope.{block_at, has_entry}
use Rattle.mlk_walk.specs.declared.report.Row.{Row}
use Rattle.mlk_walk.specs.Verdicts.{known, verdict}

-- the entries of a program: each routine's first line, and each line with a label
abbrev pub is_entry : ℕ → HeadTree × LineTrees → Bool
is_entry number l = (number == 0) || has_label l

abbrev pub entry_at : ℕ → ℕ → EntryId
entry_at routine number = record { routine = routine; line = number }

abbrev pub line_entries : ℕ → ℕ → List (HeadTree × LineTrees) → List EntryId
line_entries routine number [] = []
line_entries routine number (l ∷ lines) =
    (if is_entry number l then entry_at routine number ∷ [] else []) ++ line_entries routine (suc number) lines

abbrev pub entries_from : ℕ → List RoutineTree → List EntryId
entries_from routine [] = []
entries_from routine (tree ∷ routines) = line_entries routine 0 (lines_in tree) ++ entries_from (suc routine) routines

-- the rows of an entry: none if it is neither certified nor declared
abbrev pub is_checked : List (EntryId × EntryCert) × List EntryId → EntryId → Bool
is_checked entries e = is_some (block_at entries.0 e) || has_entry entries.1 e

abbrev pub row_of : EntryId → Fault → Row
row_of e f = record { entry = e; fault = f }

abbrev pub rows_of : List RoutineTree → RuleLists → List (EntryId × EntryCert) × List EntryId → EntryId → List Row
rows_of routines rules entries e =
    if is_checked entries e then map (row_of e) (verdict routines rules entries e) else []

-- The rows of a report; it is `yes` if there are none.
unfoldable pub report : List RoutineTree → RuleLists → List EntryCert → List Row
report routines rules blocks = flat_map (rows_of routines rules (known routines rules blocks)) (entries_from 0 routines)

-- The first entry text of the rules, or if there is none of the certificate, that does not name an entry of the program.
abbrev pub is_missing : List RoutineTree → List ℕ → Bool
is_missing routines text = is_none (entry_by routines text)

abbrev pub block_text : EntryCert → List ℕ
block_text b = b.entry

abbrev pub missing : List RoutineTree → RuleLists → List EntryCert → Option (List ℕ)
missing routines rules blocks =
    or_else (find (is_missing routines) rules.entries) (find (is_missing routines) (map block_text blocks))
