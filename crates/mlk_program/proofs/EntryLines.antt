-- The lines of an entry.
use Rattle.std.proofs.Common.{min, Vec, Global, ◌≡◌, ◌+◌, length, refl, sym, ap, ◌∙◌, arith, ℕ, zero, suc, List, [], ◌∷◌, map, take, drop, Some, None, Option, Bor}
use Rattle.std.specs.Prelude.{slice_get, cond, option_and_then, option_map, option_copied}
use Rattle.std.specs.List.{prefix_len}
use Rattle.std.proofs.lemmas.List.{length-map, take-map}
use Rattle.mlk_syntax.specs.declared.routine.Line.{Line}
use Rattle.mlk_syntax.specs.declared.routine.Routine.{Routine}
use Rattle.mlk_syntax.specs.Views.{line_of, routine_of}
use Rattle.mlk_program.specs.Entries.{lines_from, lines_of, line_of_entry, line_after, up_to_formals, has_no_formals}
use Rattle.mlk_program.specs.Tables.{trees, line_has_no_formals, later_lines, later_of, AreLater}
use Rattle.mlk_program.specs.declared.entry.EntryId.{EntryId}
use Rattle.mlk_program.proofs.Directories.{lines_same, line_some, line_none}

prefix-map : (lines : List Line) → prefix_len line_has_no_formals lines ≡ prefix_len has_no_formals (map line_of lines)
prefix-map [] = refl
prefix-map (l ∷ lines) = ap (λ n. cond (has_no_formals (line_of l)) (1 + n) 0) (prefix-map lines)

one_more : (l : Line) (later : List Line) (n : ℕ) → take (1 + n) (l ∷ later) ≡ l ∷ take n later
one_more l later n = ap (λ m. take m (l ∷ later)) (more n)
  where
    more : (m : ℕ) → 1 + m ≡ suc m
    more m = omega (arith)

pub drop-map : (n : ℕ) (lines : List Line) → drop n (map line_of lines) ≡ map line_of (drop n lines)
drop-map zero lines = refl
drop-map (suc n) [] = refl
drop-map (suc n) (l ∷ lines) = drop-map n lines

-- the first line and `n` more
pub take_within : (l : Line) (later lines : List Line) (n : ℕ) → lines ≡ l ∷ later
    → take (1 + min n (length later)) lines ≡ take (suc n) lines
take_within l later lines n is = rw is (one_more l later (min n (length later)) ∙ ap (λ m. l ∷ m) (least later n))
  where
    none : (m : ℕ) → take {A = Line} m [] ≡ []
    none zero = refl
    none (suc m) = refl

    least : (xs : List Line) (m : ℕ) → take (min m (length xs)) xs ≡ take m xs
    least [] m = none (min m 0) ∙ sym (none m)
    least (x ∷ xs) zero = ap (λ k. take k (x ∷ xs)) (no_less (length (x ∷ xs)))
      where
        no_less : (k : ℕ) → min 0 k ≡ 0
        no_less k = omega (arith)
    least (x ∷ xs) (suc m) = ap (λ k. take k (x ∷ xs)) (both m (length xs)) ∙ ap (λ more. x ∷ more) (least xs m)
      where
        both : (a b : ℕ) → min (suc a) (suc b) ≡ suc (min a b)
        both a b = omega (arith)

-- the counts of an entry's routine
pub later_some : (routines : List Routine) (counts : List (Vec ℕ Global)) (e : EntryId) (v : Vec ℕ Global)
    → AreLater routines counts → slice_get counts e.routine ≡ Some v → slice_get v.items e.line ≡ later_of routines e
later_some routines counts e v h is = go routines counts e.routine h is
  where
    one : (a b : Vec ℕ Global) → Some a ≡ Some b → b ≡ a
    one a b q = cc q

    go : (rs : List Routine) (cs : List (Vec ℕ Global)) (i : ℕ) → AreLater rs cs → slice_get cs i ≡ Some v
        → slice_get v.items e.line ≡ option_and_then (λ r. slice_get (later_lines r.lines.items) e.line) (slice_get rs i)
    go rs [] i k at = cc at
    go [] (c ∷ cs) i k at = cc k
    go (r ∷ rs) (c ∷ cs) zero k at = ap (λ w. slice_get w.items e.line) (one c v at)
        ∙ ap (λ l. slice_get l e.line) (first_same c.items (later_lines r.lines.items) _ _ k)
      where
        first_same : (a b : List ℕ) (cs ds : List (List ℕ)) → a ∷ cs ≡ b ∷ ds → a ≡ b
        first_same a b cs ds q = cc q
    go (r ∷ rs) (c ∷ cs) (suc i) k at = go rs cs i (more_same c.items (later_lines r.lines.items) _ _ k) at
      where
        more_same : (a b : List ℕ) (cs ds : List (List ℕ)) → a ∷ cs ≡ b ∷ ds → cs ≡ ds
        more_same a b cs ds q = cc q

pub later_none : (routines : List Routine) (counts : List (Vec ℕ Global)) (e : EntryId)
    → AreLater routines counts → slice_get counts e.routine ≡ None → None ≡ later_of routines e
later_none routines counts e h is = go routines counts e.routine h is
  where
    go : (rs : List Routine) (cs : List (Vec ℕ Global)) (i : ℕ) → AreLater rs cs → slice_get cs i ≡ None
        → None ≡ option_and_then (λ r. slice_get (later_lines r.lines.items) e.line) (slice_get rs i)
    go [] cs i k at = refl
    go (r ∷ rs) [] i k at = cc k
    go (r ∷ rs) (c ∷ cs) zero k at = cc at
    go (r ∷ rs) (c ∷ cs) (suc i) k at = go rs cs i (more_same c.items (later_lines r.lines.items) _ _ k) at
      where
        more_same : (a b : List ℕ) (cs ds : List (List ℕ)) → a ∷ cs ≡ b ∷ ds → cs ≡ ds
        more_same a b cs ds q = cc q

-- an entry's lines are its own and as many as were counted
taken : (lines : List Line) (n later : ℕ) → slice_get (later_lines lines) n ≡ Some later
    → map line_of (take (suc later) (drop n lines)) ≡ up_to_formals (map line_of (drop n lines))
taken [] n later h = cc h
taken (l ∷ lines) zero later h = ap (λ more. line_of l ∷ more) (sym (take-map line_of later lines)
    ∙ ap (λ k. take k (map line_of lines)) (sym (one h) ∙ prefix-map lines))
  where
    one : Some (prefix_len line_has_no_formals lines) ≡ Some later → prefix_len line_has_no_formals lines ≡ later
    one q = cc q
taken (l ∷ lines) (suc n) later h = taken lines n later h

none_left : (lines : List Line) (n : ℕ) → slice_get (later_lines lines) n ≡ None → [] ≡ up_to_formals (map line_of (drop n lines))
none_left [] zero h = refl
none_left [] (suc n) h = refl
none_left (l ∷ lines) zero h = cc h
none_left (l ∷ lines) (suc n) h = none_left lines n h

-- the lines of an entry's routine from the entry on
pub lines_some : (routines : List Routine) (e : EntryId) (r : Routine) → slice_get routines e.routine ≡ Some r
    → up_to_formals (map line_of (drop e.line r.lines.items)) ≡ lines_of (trees routines) e
lines_some routines e r is = go routines e.routine is
  where
    go : (rs : List Routine) (i : ℕ) → slice_get rs i ≡ Some r
        → up_to_formals (map line_of (drop e.line r.lines.items)) ≡ lines_from e.line (slice_get (trees rs) i)
    go [] i h = cc h
    go (q ∷ rs) zero h = ap up_to_formals (sym (drop-map e.line r.lines.items)
        ∙ ap (drop e.line) (sym (lines_same (map line_of r.lines.items))))
        ∙ ap (λ o. lines_from e.line (Some (routine_of o))) (came h)
      where
        came : Some q ≡ Some r → r ≡ q
        came k = cc k
    go (q ∷ rs) (suc i) h = go rs i h

pub lines_taken : (routines : List Routine) (e : EntryId) (r : Routine) (later : ℕ) → slice_get routines e.routine ≡ Some r
    → Some later ≡ later_of routines e → map line_of (take (suc later) (drop e.line r.lines.items)) ≡ lines_of (trees routines) e
lines_taken routines e r later is h =
    let here : slice_get (later_lines r.lines.items) e.line ≡ Some later =
    sym (h ∙ ap (option_and_then (λ q. slice_get (later_lines q.lines.items) e.line)) is) in
    taken r.lines.items e.line later here ∙ lines_some routines e r is

pub no_lines_left : (routines : List Routine) (e : EntryId) (r : Routine) → slice_get routines e.routine ≡ Some r
    → None ≡ later_of routines e → [] ≡ lines_of (trees routines) e
no_lines_left routines e r is h =
    let here : slice_get (later_lines r.lines.items) e.line ≡ None =
    sym (h ∙ ap (option_and_then (λ q. slice_get (later_lines q.lines.items) e.line)) is) in
    none_left r.lines.items e.line here ∙ lines_some routines e r is

pub lines_none : (routines : List Routine) (e : EntryId) → slice_get routines e.routine ≡ None
    → [] ≡ lines_of (trees routines) e
lines_none routines e is = go routines e.routine is
  where
    go : (rs : List Routine) (i : ℕ) → slice_get rs i ≡ None → [] ≡ lines_from e.line (slice_get (trees rs) i)
    go [] i h = refl
    go (q ∷ rs) zero h = cc h
    go (q ∷ rs) (suc i) h = go rs i h

-- the item at a place after the first so many
get_drop : {A : Type 0} (n k : ℕ) (xs : List A) → slice_get (drop n xs) k ≡ slice_get xs (n + k)
get_drop zero k xs = ap (slice_get xs) (sum k)
  where
    sum : (m : ℕ) → m ≡ 0 + m
    sum m = omega (arith)
get_drop (suc n) k [] = refl
get_drop (suc n) k (x ∷ xs) = get_drop n k xs ∙ ap (slice_get (x ∷ xs)) (sum n k)
  where
    sum : (a b : ℕ) → suc (a + b) ≡ suc a + b
    sum a b = omega (arith)

-- the line after an entry's lines
pub after_some : (routines : List Routine) (e : EntryId) (r : Routine) (lines : List Line) (o : Option (Bor Line))
    → slice_get routines e.routine ≡ Some r → map line_of lines ≡ lines_of (trees routines) e
    → option_copied o ≡ slice_get (drop e.line r.lines.items) (length lines)
    → option_map (λ l. line_of l.now) o ≡ line_after (trees routines) e
after_some routines e r lines o is own here =
    line_some routines (record e { line = e.line + length lines }) r o is (here ∙ get_drop e.line (length lines) r.lines.items)
    ∙ ap (λ n. line_of_entry (trees routines) (record e { line = e.line + n })) (sym (length-map lines line_of) ∙ ap length own)

pub after_none : (routines : List Routine) (e : EntryId) → slice_get routines e.routine ≡ None
    → None ≡ line_after (trees routines) e
after_none routines e is =
    line_none routines (record e { line = e.line + length (lines_of (trees routines) e) }) is
