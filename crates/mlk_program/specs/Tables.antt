-- Tables of names: each has the index of the first item with it. For private clauses only. This project's own.
use Rattle.std.specs.Prelude.{ℕ, ◌≡◌, List, [], ◌∷◌, Option, Some, None, bytes_eq, if◌then◌else◌, map, position, Vec}
use Rattle.std.specs.Prelude.{Bool, option_and_then, slice_get}
use Rattle.std.specs.List.{prefix_len}
use Rattle.std.specs.declared.alloc.Global.{Global}
use Rattle.mlk_syntax.specs.declared.routine.Line.{Line}
use Rattle.mlk_syntax.specs.declared.routine.Routine.{Routine}
use Rattle.mlk_syntax.specs.Trees.{RoutineTree}
use Rattle.mlk_syntax.specs.Views.{line_of, routine_of}
use Rattle.mlk_program.specs.Entries.{is_label, label_of, has_no_formals}
use Rattle.mlk_program.specs.declared.entry.EntryId.{EntryId}

-- the index of the first item with the name
abbrev pub first_with : List ℕ → List (List ℕ × ℕ) → Option ℕ
first_with name [] = None
first_with name (p ∷ pairs) = if bytes_eq name p.0 then Some p.1 else first_with name pairs

-- two tables have the same index for each name
abbrev pub SameFirst : List (List ℕ × ℕ) → List (List ℕ × ℕ) → Type 0
SameFirst xs ys = (name : List ℕ) → first_with name xs ≡ first_with name ys

-- names with their indexes, from i on
abbrev pub one_at : ℕ → Option (List ℕ) → List (List ℕ × ℕ)
one_at i None = []
one_at i (Some name) = (name, i) ∷ []

-- Each name has the index of the first item that has it.
abbrev pub IsTableOf : {A : Type 0} → (A → Option (List ℕ)) → List A → List (List ℕ × ℕ) → Type 0
IsTableOf label items table = (name : List ℕ)
    → first_with name table ≡ position (λ a. is_label name (label a)) items

-- the label of a line of the code
abbrev pub line_label : Line → Option (List ℕ)
line_label l = label_of (line_of l).0

-- a table for the labels of each routine
abbrev pub AreTables : List Routine → List (List (List ℕ × ℕ)) → Type 0
AreTables [] [] = Unit {0}
AreTables [] (t ∷ tables) = ⊥
AreTables (r ∷ routines) [] = ⊥
AreTables (r ∷ routines) (t ∷ tables) = IsTableOf line_label r.lines.items t × AreTables routines tables

abbrev pub trees : List Routine → List RoutineTree
trees routines = map routine_of routines

-- the index of the first line, if there is one
abbrev pub first_of : List Line → Option ℕ
first_of [] = None
first_of (l ∷ lines) = Some 0

-- For each line of the code, how many lines follow it before the next with a formal list.
abbrev pub line_has_no_formals : Line → Bool
line_has_no_formals l = has_no_formals (line_of l)

abbrev pub later_lines : List Line → List ℕ
later_lines [] = []
later_lines (l ∷ later) = prefix_len line_has_no_formals later ∷ later_lines later

-- `later_lines` for each routine
abbrev pub AreLater : List Routine → List (Vec ℕ Global) → Type 0
AreLater routines counts = map (λ v. v.items) counts ≡ map (λ r. later_lines r.lines.items) routines

-- for an entry, if the routines have it
abbrev pub later_of : List Routine → EntryId → Option ℕ
later_of routines e = option_and_then (λ r. slice_get (later_lines r.lines.items) e.line) (slice_get routines e.routine)
