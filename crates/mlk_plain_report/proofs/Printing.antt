-- The text of an entry, found in the routines that were read.
use Rattle.std.proofs.Common.{◌≡◌, ℕ, List, [], map, Option, Some, None, sym, ap, ◌∙◌}
use Rattle.std.specs.Prelude.{option_map, option_and_then, slice_get}
use Rattle.std.proofs.lemmas.Option.{slice_get-map}
use Rattle.mlk_syntax.specs.declared.routine.Line.{Line}
use Rattle.mlk_syntax.specs.declared.routine.Routine.{Routine}
use Rattle.mlk_syntax.specs.Views.{line_of, routine_of}
use Rattle.mlk_program.specs.Entries.{label_of, text_with, text_in}
use Rattle.mlk_program.specs.declared.entry.EntryId.{EntryId}
use Rattle.mlk_program.proofs.Directories.{lines_same}
use Rattle.mlk_plain_report.specs.Texts.{or_nothing, entry_text}

shown : (routines : List Routine) (e : EntryId) (o : Option Routine) → o ≡ slice_get routines e.routine
    → or_nothing (option_and_then (text_in e.line) (option_map routine_of o)) ≡ entry_text (map routine_of routines) e
shown routines e o h = ap (λ p. or_nothing (option_and_then (text_in e.line) p)) (ap (option_map routine_of) h ∙ sym (slice_get-map routine_of routines e.routine))

-- no such routine, no such line of it,
pub entry_none : (routines : List Routine) (e : EntryId) → None ≡ slice_get routines e.routine → [] ≡ entry_text (map routine_of routines) e
entry_none routines e h = shown routines e None h

line_shown : (r : Routine) (n : ℕ) (o : Option Line) → o ≡ slice_get r.lines.items n
    → or_nothing (option_map (λ l. text_with (label_of l.0) r.name) (option_map line_of o)) ≡ or_nothing (text_in n (routine_of r))
line_shown r n o h = ap (λ p. or_nothing (option_map (λ l. text_with (label_of l.0) r.name) p))
    (ap (option_map line_of) h ∙ sym (slice_get-map line_of r.lines.items n) ∙ ap (λ ls. slice_get ls n) (sym (lines_same (map line_of r.lines.items))))

pub line_none : (routines : List Routine) (e : EntryId) (r : Routine) → Some r ≡ slice_get routines e.routine → None ≡ slice_get r.lines.items e.line
    → [] ≡ entry_text (map routine_of routines) e
line_none routines e r h k = line_shown r e.line None k ∙ shown routines e (Some r) h

-- and a line of a routine
pub line_some : (routines : List Routine) (e : EntryId) (r : Routine) (l : Line) → Some r ≡ slice_get routines e.routine → Some l ≡ slice_get r.lines.items e.line
    → text_with (label_of (line_of l).0) r.name ≡ entry_text (map routine_of routines) e
line_some routines e r l h k = line_shown r e.line (Some l) k ∙ shown routines e (Some r) h
