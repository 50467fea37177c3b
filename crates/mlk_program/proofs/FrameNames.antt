-- What calls pass by reference, entry by entry.
use Rattle.std.proofs.Common.{◌≡◌, ◌+◌, ◌≤◌, ◌<◌, length, refl, sym, ap, ◌∙◌, arith, ℕ, zero, suc, Bool, true, false, List, [], ◌∷◌, ◌++◌, map, take, drop, Option, Some, None, ⊎_elim}
use Rattle.std.specs.Prelude.{slice_get, bytes_eq, flat_map, ◌==◌, ◌&&◌, ◌||◌, nat_le, take_while}
use Rattle.std.specs.List.{list_any, prefix_len}
use Rattle.std.proofs.lemmas.Bool.{cases_Bool}
use Rattle.std.proofs.lemmas.Bool.Decides.{nat_tests}
use Rattle.std.proofs.lemmas.List.Folds.{list_any-append}
use Rattle.std.proofs.lemmas.Grind.{flat_map-append}
use Rattle.mlk_syntax.specs.declared.routine.Line.{Line}
use Rattle.mlk_syntax.specs.declared.routine.Routine.{Routine}
use Rattle.mlk_syntax.specs.Views.{line_of}
use Rattle.mlk_program.specs.Entries.{up_to_formals, has_no_formals, lines_of}
use Rattle.mlk_program.specs.Tables.{trees, line_has_no_formals}
use Rattle.mlk_program.specs.Program.{filled_by, passed_by, calls_of, calls_at, is_formal, is_passed_in, is_shared_in}
use Rattle.mlk_program.specs.Linking.{placed_in}
use Rattle.mlk_program.specs.Frames.{NameAt, Kept, same_name, is_kept, is_passed, answers, Learns, entry_name, fillings, part_name, passings, past_of, part_at, part_with, part_of, lines_left_in, passed_in_lines, passed_from}
use Rattle.mlk_program.specs.declared.entry.EntryId.{EntryId}
use Rattle.mlk_program.specs.declared.part.RoutinePart.{RoutinePart}
use Rattle.mlk_program.proofs.EntryLines.{lines_some, lines_none}

-- the formals of an entry
and_moved : (a b c : Bool) → (a && (b && c)) ≡ ((a && b) && c)
and_moved true b c = refl
and_moved false b c = refl

kept_formals : (e : EntryId) (name : List ℕ) (fs : List (EntryId × List ℕ))
    → is_kept (map entry_name fs) (entry_name (e, name)) ≡ list_any (is_formal e name) fs
kept_formals e name [] = refl
kept_formals e name (f ∷ fs) =
    ap (λ b. b || is_kept (map entry_name fs) (entry_name (e, name))) (and_moved (e.routine == f.0.routine) (e.line == f.0.line) (bytes_eq name f.1))
    ∙ ap (λ b. is_formal e name f || b) (kept_formals e name fs)

-- the names that a line passes, all of which answer, or none
same_number : (n : ℕ) → (n == n) ≡ true
same_number n = grind (arith, nat_tests)

or_both : (a b c d : Bool) → a ≡ c → b ≡ d → (a || b) ≡ (c || d)
or_both a b c d h k = rw (h, k) refl

no_later : (left last : ℕ) → last ≤ left → nat_le last left ≡ true
no_later left last h = grind (arith, nat_tests)

hit : (part : RoutinePart) (name n : List ℕ) (left : ℕ) → part.left ≤ left
    → answers (part.routine, part.past, name) left (part_name part n) ≡ bytes_eq name n
hit part name n left h = rw (same_number part.routine, same_number part.past, no_later left part.left h) (and_true (bytes_eq name n))
  where
    and_true : (b : Bool) → (b && true) ≡ b
    and_true true = refl
    and_true false = refl

hits : (part : RoutinePart) (name : List ℕ) (left : ℕ) → part.left ≤ left → (names : List (List ℕ))
    → list_any (answers (part.routine, part.past, name) left) (map (part_name part) names) ≡ list_any (bytes_eq name) names
hits part name left h [] = refl
hits part name left h (n ∷ names) = or_both _ _ _ _ (hit part name n left h) (hits part name left h names)

misses : (q : NameAt) (left : ℕ) (part : RoutinePart) → ((n : List ℕ) → answers q left (part_name part n) ≡ false) → (names : List (List ℕ))
    → list_any (answers q left) (map (part_name part) names) ≡ false
misses q left part h [] = refl
misses q left part h (n ∷ names) = rw (h n) (misses q left part h names)

and_false : (b : Bool) → (b && false) ≡ false
and_false true = refl
and_false false = refl

other_routine : (r m past left : ℕ) (name n : List ℕ) (part : RoutinePart) → (r == part.routine) ≡ false
    → answers (r, past, name) left (part_name part n) ≡ false
other_routine r m past left name n part h = rw h refl

other_part : (r past left : ℕ) (name n : List ℕ) (part : RoutinePart) → (past == part.past) ≡ false
    → answers (r, past, name) left (part_name part n) ≡ false
other_part r past left name n part h = rw (h, and_false (r == part.routine)) refl

is_less : (a b : ℕ) → a < b → nat_le b a ≡ false
is_less a b h = grind (arith, nat_tests)

earlier_line : (q : NameAt) (left : ℕ) (n : List ℕ) (part : RoutinePart) → left < part.left → answers q left (part_name part n) ≡ false
earlier_line q left n part h = rw (is_less left part.left h) (and_false (same_name q (part_name part n).0))

-- what other routines pass does not answer for this one
differ : (a b : ℕ) → a < b → (a == b) ≡ false
differ a b h = grind (arith, nat_tests)

differ_more : (a b : ℕ) → b < a → (a == b) ≡ false
differ_more a b h = grind (arith, nat_tests)

none_in_lines : (r m past left : ℕ) (name : List ℕ) → (r == m) ≡ false → (lines : List Line)
    → list_any (answers (r, past, name) left) (passed_in_lines m lines) ≡ false
none_in_lines r m past left name h [] = refl
none_in_lines r m past left name h (l ∷ later) =
    list_any-append _ (passings (part_at m later) (placed_in m l)) (passed_in_lines m later)
    ∙ or_both _ _ false false
    (misses (r, past, name) left (part_at m later) (λ n. other_routine r m past left name n (part_at m later) h) (flat_map passed_by (placed_in m l)))
    (none_in_lines r m past left name h later)

none_after : (r m past left : ℕ) (name : List ℕ) → r < m → (routines : List Routine)
    → list_any (answers (r, past, name) left) (passed_from m routines) ≡ false
none_after r m past left name h [] = refl
none_after r m past left name h (routine ∷ routines) =
    list_any-append _ (passed_in_lines m routine.lines.items) (passed_from (suc m) routines)
    ∙ or_both _ _ false false (none_in_lines r m past left name (differ r m h) routine.lines.items)
    (none_after r (suc m) past left name (omega (arith, h)) routines)

abbrev lines_at : Option Routine → List Line
lines_at None = []
lines_at (Some routine) = routine.lines.items

in_routine : (r m i past left : ℕ) (name : List ℕ) → r ≡ m + i → (routines : List Routine)
    → list_any (answers (r, past, name) left) (passed_from m routines)
    ≡ list_any (answers (r, past, name) left) (passed_in_lines r (lines_at (slice_get routines i)))
in_routine r m i past left name h [] = refl
in_routine r m zero past left name h (routine ∷ routines) =
    let same : r ≡ m = omega (arith, h) in
    list_any-append _ (passed_in_lines m routine.lines.items) (passed_from (suc m) routines)
    ∙ ap (λ b. list_any (answers (r, past, name) left) (passed_in_lines m routine.lines.items) || b)
    (none_after r (suc m) past left name (omega (arith, h)) routines)
    ∙ or_none (list_any (answers (r, past, name) left) (passed_in_lines m routine.lines.items))
    ∙ ap (λ k. list_any (answers (r, past, name) left) (passed_in_lines k routine.lines.items)) (sym same)
  where
    or_none : (b : Bool) → (b || false) ≡ b
    or_none true = refl
    or_none false = refl
in_routine r m (suc i) past left name h (routine ∷ routines) =
    list_any-append _ (passed_in_lines m routine.lines.items) (passed_from (suc m) routines)
    ∙ ap (λ b. b || list_any (answers (r, past, name) left) (passed_from (suc m) routines))
    (none_in_lines r m past left name (differ_more r m (omega (arith, h))) routine.lines.items)
    ∙ in_routine r (suc m) i past left name (omega (arith, h)) routines

-- within the lines of a routine
past_within : (lines : List Line) → past_of lines ≤ length lines
past_within [] = omega (arith)
past_within (l ∷ later) = ⊎_elim
    (λ h. let more : past_of later ≤ length later = past_within later in rw h (omega (arith, more)))
    (λ h. rw h (omega (arith)))
    (cases_Bool (line_has_no_formals l))

none_past : (r past left : ℕ) (name : List ℕ) (lines : List Line) → length lines ≤ past
    → list_any (answers (r, past, name) left) (passed_in_lines r lines) ≡ false
none_past r past left name [] h = refl
none_past r past left name (l ∷ later) h =
    let within : past_of later ≤ length later = past_within later in
    let long : suc (length later) ≤ past = h in
    list_any-append _ (passings (part_at r later) (placed_in r l)) (passed_in_lines r later)
    ∙ or_both _ _ false false
    (misses (r, past, name) left (part_at r later)
    (λ n. other_part r past left name n (part_at r later) (differ_more past (past_of later) (omega (arith, within, long)))) (flat_map passed_by (placed_in r l)))
    (none_past r past left name later (omega (arith, long)))

abbrev passed_names : ℕ → List Line → List (List ℕ)
passed_names r lines = flat_map passed_by (flat_map (placed_in r) lines)

names_more : (r : ℕ) (l : Line) (lines : List Line) → passed_names r (l ∷ lines) ≡ flat_map passed_by (placed_in r l) ++ passed_names r lines
names_more r l lines = flat_map-append passed_by (placed_in r l) (flat_map (placed_in r) lines)

itself : (n : ℕ) → n ≤ n
itself n = omega (arith)

one_more : (n : ℕ) → 1 + n ≡ suc n
one_more n = omega (arith)

-- the first elements of a list that pass a test, with one more before them
while_more : {A : Type 0} (test : A → Bool) (x : A) (xs : List A) → test x ≡ true → take_while test (x ∷ xs) ≡ x ∷ take_while test xs
while_more test x xs h = rw h (ap (λ n. take n (x ∷ xs)) (one_more (prefix_len test xs)))

while_none : {A : Type 0} (test : A → Bool) (x : A) (xs : List A) → test x ≡ false → take_while test (x ∷ xs) ≡ []
while_none test x xs h = rw h refl

past_more : (l : Line) (later : List Line) → line_has_no_formals l ≡ true → past_of (l ∷ later) ≡ past_of later
past_more l later h = rw h refl

-- the lines that follow one of a part
in_later : (r left : ℕ) (name : List ℕ) (lines : List Line) → length lines ≤ left
    → list_any (answers (r, past_of lines, name) left) (passed_in_lines r lines)
    ≡ list_any (bytes_eq name) (passed_names r (take_while line_has_no_formals lines))
in_later r left name [] h = refl
in_later r left name (l ∷ later) h = let long : suc (length later) ≤ left = h in ⊎_elim
    (λ (lacks : line_has_no_formals l ≡ true).
    ap (λ past. list_any (answers (r, past, name) left) (passed_in_lines r (l ∷ later))) (past_more l later lacks)
    ∙ list_any-append (answers (r, past_of later, name) left) (passings (part_at r later) (placed_in r l)) (passed_in_lines r later)
    ∙ or_both _ _ _ _ (hits (part_at r later) name left long (flat_map passed_by (placed_in r l))) (in_later r left name later (omega (arith, long)))
    ∙ sym (list_any-append (bytes_eq name) (flat_map passed_by (placed_in r l)) (passed_names r (take_while line_has_no_formals later)))
    ∙ ap (list_any (bytes_eq name)) (sym (names_more r l (take_while line_has_no_formals later)))
    ∙ ap (λ ls. list_any (bytes_eq name) (passed_names r ls)) (sym (while_more line_has_no_formals l later lacks)))
    (λ (has : line_has_no_formals l ≡ false). rw has (none_past r (suc (length later)) left name (l ∷ later) (itself (suc (length later)))))
    (cases_Bool (line_has_no_formals l))

-- the lines of an entry
abbrev up_to : List Line → List Line
up_to [] = []
up_to (l ∷ later) = l ∷ take_while line_has_no_formals later

abbrev name_in : ℕ → RoutinePart → List ℕ → NameAt
name_in r part name = (r, part.past, name)

drop_within : (n : ℕ) (lines : List Line) → length (drop n lines) ≤ length lines
drop_within zero lines = omega (arith)
drop_within (suc n) [] = omega (arith)
drop_within (suc n) (l ∷ lines) = let h : length (drop n lines) ≤ length lines = drop_within n lines in omega (arith, h)

from_line : (r : ℕ) (name : List ℕ) (lines : List Line)
    → list_any (answers (r, (part_with r lines).past, name) (part_with r lines).left) (passed_in_lines r lines)
    ≡ list_any (bytes_eq name) (passed_names r (up_to lines))
from_line r name [] = refl
from_line r name (l ∷ later) = list_any-append _ (passings (part_at r later) (placed_in r l)) (passed_in_lines r later)
    ∙ or_both _ _ _ _ (hits (part_at r later) name (suc (length later)) (itself (suc (length later))) (flat_map passed_by (placed_in r l)))
    (in_later r (suc (length later)) name later (omega (arith)))
    ∙ sym (list_any-append (bytes_eq name) (flat_map passed_by (placed_in r l)) (passed_names r (take_while line_has_no_formals later)))
    ∙ ap (list_any (bytes_eq name)) (sym (names_more r l (take_while line_has_no_formals later)))

left_is : (r : ℕ) (lines : List Line) → (part_with r lines).left ≡ length lines
left_is r [] = refl
left_is r (l ∷ later) = refl

in_lines : (r n : ℕ) (name : List ℕ) (lines : List Line)
    → list_any (answers (r, (part_with r (drop n lines)).past, name) (part_with r (drop n lines)).left) (passed_in_lines r lines)
    ≡ list_any (bytes_eq name) (passed_names r (up_to (drop n lines)))
in_lines r zero name lines = from_line r name lines
in_lines r (suc n) name [] = refl
in_lines r (suc n) name (l ∷ lines) =
    let within : length (drop n lines) ≤ length lines = drop_within n lines in
    let left : (part_with r (drop n lines)).left ≡ length (drop n lines) = left_is r (drop n lines) in
    let less : (part_with r (drop n lines)).left < suc (length lines) = omega (arith, within, left) in
    list_any-append _ (passings (part_at r lines) (placed_in r l)) (passed_in_lines r lines)
    ∙ ap (λ b. b || list_any (answers (r, (part_with r (drop n lines)).past, name) (part_with r (drop n lines)).left) (passed_in_lines r lines))
    (misses (r, (part_with r (drop n lines)).past, name) (part_with r (drop n lines)).left (part_at r lines)
    (λ m. earlier_line (r, (part_with r (drop n lines)).past, name) (part_with r (drop n lines)).left m (part_at r lines) less)
    (flat_map passed_by (placed_in r l)))
    ∙ in_lines r n name lines

while_map : (lines : List Line) → take_while has_no_formals (map line_of lines) ≡ map line_of (take_while line_has_no_formals lines)
while_map [] = refl
while_map (l ∷ lines) = ⊎_elim
    (λ (h : line_has_no_formals l ≡ true). while_more has_no_formals (line_of l) (map line_of lines) h ∙ ap (λ more. line_of l ∷ more) (while_map lines)
    ∙ ap (map line_of) (sym (while_more line_has_no_formals l lines h)))
    (λ (h : line_has_no_formals l ≡ false). while_none has_no_formals (line_of l) (map line_of lines) h
    ∙ ap (map line_of) (sym (while_none line_has_no_formals l lines h)))
    (cases_Bool (line_has_no_formals l))

up_to_map : (lines : List Line) → up_to_formals (map line_of lines) ≡ map line_of (up_to lines)
up_to_map [] = refl
up_to_map (l ∷ later) = ap (λ more. line_of l ∷ more) (while_map later)

calls_map : (r : ℕ) (lines : List Line) → flat_map (calls_at r) (map line_of lines) ≡ flat_map (placed_in r) lines
calls_map r [] = refl
calls_map r (l ∷ lines) = ap (λ more. placed_in r l ++ more) (calls_map r lines)

up_to_left : (routines : List Routine) (e : EntryId)
    → lines_of (trees routines) e ≡ map line_of (up_to (lines_left_in e.line (slice_get routines e.routine)))
up_to_left routines e = go (slice_get routines e.routine) refl
  where
    go : (o : Option Routine) → slice_get routines e.routine ≡ o → lines_of (trees routines) e ≡ map line_of (up_to (lines_left_in e.line o))
    go None is = sym (lines_none routines e is)
    go (Some r) is = sym (lines_some routines e r is) ∙ up_to_map (drop e.line r.lines.items)

left_in_none : (n : ℕ) (o : Option Routine) → drop n (lines_at o) ≡ lines_left_in n o
left_in_none zero None = refl
left_in_none (suc n) None = refl
left_in_none n (Some r) = refl

passed_is : (routines : List Routine) (e : EntryId) (name : List ℕ)
    → list_any (answers (e.routine, (part_of routines e).past, name) (part_of routines e).left) (passed_from 0 routines)
    ≡ is_passed_in (trees routines) e name
passed_is routines e name =
    in_routine e.routine 0 e.routine (part_of routines e).past (part_of routines e).left name (omega (arith)) routines
    ∙ ap (λ lines. list_any (answers (e.routine, (part_with e.routine lines).past, name) (part_with e.routine lines).left)
    (passed_in_lines e.routine (lines_at (slice_get routines e.routine)))) (sym (left_in_none e.line (slice_get routines e.routine)))
    ∙ in_lines e.routine e.line name (lines_at (slice_get routines e.routine))
    ∙ ap (λ lines. list_any (bytes_eq name) (passed_names e.routine (up_to lines))) (left_in_none e.line (slice_get routines e.routine))
    ∙ ap (λ calls. list_any (bytes_eq name) (flat_map passed_by calls))
    (sym (calls_map e.routine (up_to (lines_left_in e.line (slice_get routines e.routine))))
    ∙ ap (flat_map (calls_at e.routine)) (sym (up_to_left routines e)))

part_routine : (r : ℕ) (lines : List Line) → (part_with r lines).routine ≡ r
part_routine r [] = refl
part_routine r (l ∷ later) = refl

-- what is kept of a program answers whether an entry shares a name
pub shared_in : (routines : List Routine) (frames : Kept) (e : EntryId) (name : List ℕ)
    → Learns (fillings (trees routines) (calls_of (trees routines))) (passed_from 0 routines) ([], []) frames
    → (is_kept frames.0 (e.routine, e.line, name)
    || is_passed frames.1 ((part_of routines e).routine, (part_of routines e).past, name) (part_of routines e).left)
    ≡ is_shared_in (trees routines) e name
shared_in routines frames e name h = or_both _ _ _ _
    (h.0 (entry_name (e, name)) ∙ kept_formals e name (flat_map (filled_by (trees routines)) (calls_of (trees routines))))
    (ap (λ r. is_passed frames.1 (r, (part_of routines e).past, name) (part_of routines e).left)
    (part_routine e.routine (lines_left_in e.line (slice_get routines e.routine)))
    ∙ h.1 (e.routine, (part_of routines e).past, name) (part_of routines e).left ∙ passed_is routines e name)

pub shared_filled : (routines : List Routine) (frames : Kept) (e : EntryId) (name : List ℕ) (found : Bool)
    → Learns (fillings (trees routines) (calls_of (trees routines))) (passed_from 0 routines) ([], []) frames
    → found ≡ is_kept frames.0 (e.routine, e.line, name) → found ≡ true → found ≡ is_shared_in (trees routines) e name
shared_filled routines frames e name found h is true_is =
    let kept : is_kept frames.0 (e.routine, e.line, name) ≡ true = sym is ∙ true_is in
    true_is ∙ sym (ap (λ b. b || is_passed frames.1 ((part_of routines e).routine, (part_of routines e).past, name) (part_of routines e).left) kept)
    ∙ shared_in routines frames e name h

pub shared_passed : (routines : List Routine) (frames : Kept) (e : EntryId) (name : List ℕ) (first found : Bool)
    → Learns (fillings (trees routines) (calls_of (trees routines))) (passed_from 0 routines) ([], []) frames
    → first ≡ is_kept frames.0 (e.routine, e.line, name) → first ≡ false
    → found ≡ is_passed frames.1 ((part_of routines e).routine, (part_of routines e).past, name) (part_of routines e).left
    → found ≡ is_shared_in (trees routines) e name
shared_passed routines frames e name first found h is not_first passed =
    let none : is_kept frames.0 (e.routine, e.line, name) ≡ false = sym is ∙ not_first in
    passed ∙ sym (ap (λ b. b || is_passed frames.1 ((part_of routines e).routine, (part_of routines e).past, name) (part_of routines e).left) none)
    ∙ shared_in routines frames e name h
