-- What calls pass by reference, as it is stored: formals that receive names, each with its entry, and names that are passed in
-- the lines of entries. The lines of a routine up to the next that has a formal list are a part, which is identified by the
-- number of lines after it. For a name that is passed in a part, its last line that passes it is stored, as the number of lines
-- from it on. For private clauses only. This project's own.
use Rattle.std.specs.Prelude.{ℕ, suc, ◌≡◌, Bool, false, ◌&&◌, ◌||◌, ◌==◌, nat_le, if◌then◌else◌, List, [], ◌∷◌, ◌++◌}
use Rattle.std.specs.Prelude.{length, drop, map, flat_map, bytes_eq, zip, Option, Some, None, option_map, slice_get}
use Rattle.std.specs.List.{list_any}
use Rattle.mlk_syntax.specs.declared.routine.Line.{Line}
use Rattle.mlk_syntax.specs.declared.routine.Routine.{Routine}
use Rattle.mlk_syntax.specs.Trees.{RoutineTree}
use Rattle.mlk_program.specs.declared.entry.EntryId.{EntryId}
use Rattle.mlk_program.specs.declared.part.RoutinePart.{RoutinePart}
use Rattle.mlk_program.specs.declared.frames.NameAt.{NameAt as Key}
use Rattle.mlk_program.specs.Entries.{target_of, line_of_entry, formals_of}
use Rattle.mlk_program.specs.Program.{PlacedCall, filled_by, passed_by, lent_by, received_by}
use Rattle.mlk_program.specs.Program.{received_at, received_with, of_entry, called_formals}
use Rattle.mlk_syntax.specs.ExprTrees.{ActualTree}
use Rattle.mlk_syntax.specs.declared.expr.Callee.{Callee}
use Rattle.mlk_program.specs.Linking.{placed_in}
use Rattle.mlk_program.specs.Tables.{line_has_no_formals}

-- a name at a place of a routine
abbrev pub NameAt : Type 0
NameAt = ℕ × ℕ × List ℕ

abbrev pub same_name : NameAt → NameAt → Bool
same_name a b = (a.0 == b.0) && ((a.1 == b.1) && bytes_eq a.2 b.2)

-- the formals that receive names, and the names that are passed, each with the number of lines from its last on
abbrev pub Kept : Type 0
Kept = List NameAt × List (NameAt × ℕ)

abbrev pub is_kept : List NameAt → NameAt → Bool
is_kept names q = list_any (same_name q) names

abbrev pub lines_from_last : NameAt → List (NameAt × ℕ) → Option ℕ
lines_from_last q [] = None
lines_from_last q (p ∷ pairs) = if same_name q p.0 then Some p.1 else lines_from_last q pairs

-- whether a line, given by the number of lines from it on, is not after the last
abbrev pub is_reached : ℕ → Option ℕ → Bool
is_reached left None = false
is_reached left (Some last) = nat_le last left

abbrev pub is_passed : List (NameAt × ℕ) → NameAt → ℕ → Bool
is_passed pairs q left = is_reached left (lines_from_last q pairs)

-- a name that is passed in a line counts for each earlier line of its part and for the line itself
abbrev pub answers : NameAt → ℕ → NameAt × ℕ → Bool
answers q left passed = same_name q passed.0 && nat_le passed.1 left

-- these formals and names are added
abbrev pub Learns : List NameAt → List (NameAt × ℕ) → Kept → Kept → Type 0
Learns filled passed old new = ((q : NameAt) → is_kept new.0 q ≡ (is_kept old.0 q || is_kept filled q))
    × ((q : NameAt) (left : ℕ) → is_passed new.1 q left ≡ (is_passed old.1 q left || list_any (answers q left) passed))

-- the representation in the code
abbrev pub key_of : Key → NameAt
key_of k = (k.routine, k.place, k.name.now)

abbrev pub keys_of : List Key → List NameAt
keys_of keys = map key_of keys

abbrev pub pairs_of : List (Key × ℕ) → List (NameAt × ℕ)
pairs_of entries = map (λ p. (key_of p.0, p.1)) entries

-- the formals that receive names from a call, and the names that it passes in a line of a part
abbrev pub entry_name : EntryId × List ℕ → NameAt
entry_name p = (p.0.routine, p.0.line, p.1)

abbrev pub formal_name : EntryId → List ℕ → NameAt
formal_name e name = entry_name (e, name)

abbrev pub filled_at : EntryId → Option (List ℕ) → ActualTree → List NameAt
filled_at e formal a = map (formal_name e) (received_at formal a)

abbrev pub filled_by_list : EntryId → List (List ℕ) → List ActualTree → List NameAt
filled_by_list e formals given = map (formal_name e) (flat_map received_by (zip formals given))

-- the formals of an entry's line, if it has a formal list
abbrev pub formals_of_entry : List RoutineTree → EntryId → Option (Option (List (List ℕ)))
formals_of_entry routines e = option_map (λ l. formals_of l.0) (line_of_entry routines e)

abbrev pub formals_known : Option (Option (List (List ℕ))) → Option (List (List ℕ))
formals_known None = None
formals_known (Some formals) = formals

abbrev pub filled_in : List RoutineTree → ℕ → Callee → List ActualTree → List NameAt
filled_in routines own callee given = map entry_name
    (of_entry (target_of routines own callee) (received_with (called_formals routines own callee) (Some given)))

abbrev pub fillings : List RoutineTree → List PlacedCall → List NameAt
fillings routines calls = map entry_name (flat_map (filled_by routines) calls)

abbrev pub part_name : RoutinePart → List ℕ → NameAt × ℕ
part_name part name = ((part.routine, part.past, name), part.left)

abbrev pub passed_at : RoutinePart → ActualTree → List (NameAt × ℕ)
passed_at part a = map (part_name part) (lent_by a)

abbrev pub passed_by_list : RoutinePart → List ActualTree → List (NameAt × ℕ)
passed_by_list part given = map (part_name part) (flat_map lent_by given)

abbrev pub passings : RoutinePart → List PlacedCall → List (NameAt × ℕ)
passings part calls = map (part_name part) (flat_map passed_by calls)

abbrev pub LearnsCalls : List RoutineTree → RoutinePart → List PlacedCall → Kept → Kept → Type 0
LearnsCalls routines part calls old new = Learns (fillings routines calls) (passings part calls) old new

-- The number of lines after a part, given the lines that follow one of its lines.
abbrev pub past_of : List Line → ℕ
past_of [] = 0
past_of (l ∷ later) = if line_has_no_formals l then past_of later else suc (length later)

abbrev pub part_at : ℕ → List Line → RoutinePart
part_at r later = record { routine = r; past = past_of later; left = suc (length later) }

-- the formals and names of all calls in the lines of a routine, and of those in routines, from this one on
abbrev pub passed_in_lines : ℕ → List Line → List (NameAt × ℕ)
passed_in_lines r [] = []
passed_in_lines r (l ∷ later) = passings (part_at r later) (placed_in r l) ++ passed_in_lines r later

abbrev pub passed_from : ℕ → List Routine → List (NameAt × ℕ)
passed_from r [] = []
passed_from r (routine ∷ routines) = passed_in_lines r routine.lines.items ++ passed_from (suc r) routines

-- the part of an entry's line
abbrev pub lines_left_in : ℕ → Option Routine → List Line
lines_left_in n None = []
lines_left_in n (Some routine) = drop n routine.lines.items

abbrev pub part_with : ℕ → List Line → RoutinePart
part_with r [] = record { routine = r; past = 0; left = 0 }
part_with r (l ∷ later) = part_at r later

abbrev pub part_of : List Routine → EntryId → RoutinePart
part_of routines e = part_with e.routine (lines_left_in e.line (slice_get routines e.routine))
