-- What the tables of a directory say of the trees of its routines.
use Rattle.std.proofs.Common.{◌≡◌, ◌<◌, refl, sym, ap, ◌∙◌, ℕ, zero, suc, List, [], ◌∷◌, ◌++◌, map, take, length, get_or, Option, Some, None, Bool, add-one, Bor, ◌+◌, true}
use Rattle.std.specs.Prelude.{position, option_map, option_and_then, slice_get, option_copied, if◌then◌else◌}
use Rattle.std.proofs.Math.Seq.{take-suc}
use Rattle.mlk_syntax.specs.declared.routine.Line.{Line}
use Rattle.mlk_syntax.specs.declared.routine.Routine.{Routine}
use Rattle.mlk_syntax.specs.Trees.{HeadTree, LineTrees}
use Rattle.mlk_syntax.specs.Views.{line_of, routine_of, lines_from}
use Rattle.mlk_program.specs.Entries.{as_lines, lines_in, line_named, routine_named, is_label, label_of, line_of_entry, text_with, text_in, text_of_entry}
use Rattle.mlk_program.specs.Tables.{first_with, IsTableOf, AreTables, line_label, trees, first_of}
use Rattle.mlk_program.specs.declared.entry.EntryId.{EntryId}
use Rattle.mlk_program.proofs.NameTables.{position-cons, Pairs}

-- one more routine
pub tables_more : (routines : List Routine) (tables : List Pairs) (r : Routine) (t : Pairs) → AreTables routines tables
    → IsTableOf line_label r.lines.items t → AreTables (routines ++ r ∷ []) (tables ++ t ∷ [])
tables_more [] [] r t h is = (is, tt)
tables_more [] (u ∷ tables) r t h is = absurd h
tables_more (q ∷ routines) [] r t h is = absurd h
tables_more (q ∷ routines) (u ∷ tables) r t h is = (h.0, tables_more routines tables r t h.1 is)

pub tables_next : (routines : List Routine) (i : ℕ) (r : Routine) (old new : List Pairs) (t : Pairs) → i < length routines
    → r ≡ get_or routines i r → AreTables (take i routines) old → IsTableOf line_label r.lines.items t
    → new ≡ old ++ t ∷ [] → AreTables (take (i + 1) routines) new
tables_next routines i r old new t low is h one e =
    let step : take (i + 1) routines ≡ take i routines ++ r ∷ [] =
    rw (add-one) (take-suc routines i r low ∙ ap (λ x. take i routines ++ x ∷ []) (sym is)) in
    rw (step, e) (tables_more (take i routines) old r t h one)

pub position-map : {A B : Type 0} (p : B → Bool) (f : A → B) (xs : List A) → position p (map f xs) ≡ position (λ x. p (f x)) xs
position-map p f [] = refl
position-map p f (x ∷ xs) = position-cons p (f x) (map f xs)
    ∙ ap (λ o. if p (f x) then Some 0 else option_map suc o) (position-map p f xs)
    ∙ sym (position-cons (λ y. p (f y)) x xs)

pub lines_same : (lines : List (HeadTree × LineTrees)) → as_lines (lines_from lines) ≡ lines
lines_same [] = refl
lines_same (l ∷ lines) = ap (λ more. l ∷ more) (lines_same lines)

pub routine_found : (routines : List Routine) (names : Pairs) (name : List ℕ)
    → IsTableOf (λ r. Some r.name) routines names → first_with name names ≡ routine_named (trees routines) name
routine_found routines names name h = h name ∙ sym (position-map _ routine_of routines)

pub label_found : (routines : List Routine) (tables : List Pairs) (i : ℕ) (label : List ℕ) → AreTables routines tables
    → option_and_then (first_with label) (slice_get tables i)
    ≡ option_and_then (λ tree. line_named (Some label) (lines_in tree)) (slice_get (trees routines) i)
label_found [] [] i label h = refl
label_found [] (t ∷ tables) i label h = absurd h
label_found (r ∷ routines) [] i label h = absurd h
label_found (r ∷ routines) (t ∷ tables) zero label h = h.0 label
    ∙ sym (ap (line_named (Some label)) (lines_same (map line_of r.lines.items))
    ∙ position-map (λ l. is_label label (label_of l.0)) line_of r.lines.items)
label_found (r ∷ routines) (t ∷ tables) (suc i) label h = label_found routines tables i label h.1

-- a routine, and a line of it
first_named : (lines : List Line) → first_of lines ≡ line_named None (map line_of lines)
first_named [] = refl
first_named (l ∷ lines) = sym (position-cons (λ x. true) (line_of l) (map line_of lines))

pub first_found : (routines : List Routine) (i : ℕ)
    → option_and_then (λ r. first_of r.lines.items) (slice_get routines i)
    ≡ option_and_then (λ tree. line_named None (lines_in tree)) (slice_get (trees routines) i)
first_found [] i = refl
first_found (r ∷ routines) zero =
    first_named r.lines.items ∙ ap (line_named None) (sym (lines_same (map line_of r.lines.items)))
first_found (r ∷ routines) (suc i) = first_found routines i

line_at : (lines : List Line) (n : ℕ) → option_map line_of (slice_get lines n) ≡ slice_get (map line_of lines) n
line_at [] n = refl
line_at (l ∷ lines) zero = refl
line_at (l ∷ lines) (suc n) = line_at lines n

pub line_found : (routines : List Routine) (e : EntryId)
    → option_and_then (λ r. option_map line_of (slice_get r.lines.items e.line)) (slice_get routines e.routine)
    ≡ line_of_entry (trees routines) e
line_found routines e = go routines e.routine
  where
    go : (rs : List Routine) (i : ℕ) → option_and_then (λ r. option_map line_of (slice_get r.lines.items e.line)) (slice_get rs i)
        ≡ option_and_then (λ tree. slice_get (lines_in tree) e.line) (slice_get (trees rs) i)
    go [] i = refl
    go (r ∷ rs) zero = line_at r.lines.items e.line
        ∙ ap (λ ls. slice_get ls e.line) (sym (lines_same (map line_of r.lines.items)))
    go (r ∷ rs) (suc i) = go rs i

pub label_some : (routines : List Routine) (tables : List Pairs) (i : ℕ) (label : List ℕ) (t : Pairs)
    → AreTables routines tables → slice_get tables i ≡ Some t → first_with label t
    ≡ option_and_then (λ tree. line_named (Some label) (lines_in tree)) (slice_get (trees routines) i)
label_some routines tables i label t h is =
    sym (ap (option_and_then (first_with label)) is) ∙ label_found routines tables i label h

pub label_none : (routines : List Routine) (tables : List Pairs) (i : ℕ) (label : List ℕ)
    → AreTables routines tables → slice_get tables i ≡ None → None
    ≡ option_and_then (λ tree. line_named (Some label) (lines_in tree)) (slice_get (trees routines) i)
label_none routines tables i label h is =
    sym (ap (option_and_then (first_with label)) is) ∙ label_found routines tables i label h

pub first_some : (routines : List Routine) (i : ℕ) (r : Routine) → slice_get routines i ≡ Some r
    → first_of r.lines.items ≡ option_and_then (λ tree. line_named None (lines_in tree)) (slice_get (trees routines) i)
first_some routines i r is = sym (ap (option_and_then (λ q. first_of q.lines.items)) is) ∙ first_found routines i

pub first_none : (routines : List Routine) (i : ℕ) → slice_get routines i ≡ None
    → None ≡ option_and_then (λ tree. line_named None (lines_in tree)) (slice_get (trees routines) i)
first_none routines i is = sym (ap (option_and_then (λ q. first_of q.lines.items)) is) ∙ first_found routines i

copied : {A : Type 0} {B : Type 0} (f : A → B) (o : Option (Bor A)) → option_map (λ b. f b.now) o ≡ option_map f (option_copied o)
copied f None = refl
copied f (Some b) = refl

pub line_some : (routines : List Routine) (e : EntryId) (r : Routine) (o : Option (Bor Line))
    → slice_get routines e.routine ≡ Some r → option_copied o ≡ slice_get r.lines.items e.line
    → option_map (λ l. line_of l.now) o ≡ line_of_entry (trees routines) e
line_some routines e r o is here = copied line_of o ∙ ap (option_map line_of) here
    ∙ sym (ap (option_and_then (λ q. option_map line_of (slice_get q.lines.items e.line))) is) ∙ line_found routines e

pub line_none : (routines : List Routine) (e : EntryId) → slice_get routines e.routine ≡ None
    → None ≡ line_of_entry (trees routines) e
line_none routines e is =
    sym (ap (option_and_then (λ q. option_map line_of (slice_get q.lines.items e.line))) is) ∙ line_found routines e

-- the text of an entry
text_at : (routines : List Routine) (e : EntryId) (r : Routine) → slice_get routines e.routine ≡ Some r
    → option_map (λ x. text_with (label_of (line_of x).0) r.name) (slice_get r.lines.items e.line)
    ≡ text_of_entry (trees routines) e
text_at routines e r is = go routines e.routine is
  where
    lined : (lines : List Line) (n : ℕ) → option_map (λ x. text_with (label_of (line_of x).0) r.name) (slice_get lines n)
        ≡ option_map (λ x. text_with (label_of x.0) r.name) (slice_get (map line_of lines) n)
    lined [] n = refl
    lined (l ∷ lines) zero = refl
    lined (l ∷ lines) (suc n) = lined lines n

    go : (rs : List Routine) (i : ℕ) → slice_get rs i ≡ Some r
        → option_map (λ x. text_with (label_of (line_of x).0) r.name) (slice_get r.lines.items e.line)
        ≡ option_and_then (text_in e.line) (slice_get (trees rs) i)
    go [] i h = cc h
    go (q ∷ rs) zero h = lined r.lines.items e.line
        ∙ ap (λ ls. option_map (λ x. text_with (label_of x.0) r.name) (slice_get ls e.line)) (sym (lines_same (map line_of r.lines.items)))
        ∙ ap (λ o. option_and_then (text_in e.line) (Some (routine_of o))) (came h)
      where
        came : Some q ≡ Some r → r ≡ q
        came k = cc k
    go (q ∷ rs) (suc i) h = go rs i h

pub text_some : (routines : List Routine) (e : EntryId) (r : Routine) (o : Option (Bor Line)) (l : Bor Line)
    → slice_get routines e.routine ≡ Some r → option_copied o ≡ slice_get r.lines.items e.line → o ≡ Some l
    → Some (text_with (label_of (line_of l.now).0) r.name) ≡ text_of_entry (trees routines) e
text_some routines e r o l is here found =
    ap (option_map (λ x. text_with (label_of (line_of x.now).0) r.name)) (sym found)
    ∙ copied (λ x. text_with (label_of (line_of x).0) r.name) o
    ∙ ap (option_map (λ x. text_with (label_of (line_of x).0) r.name)) here
    ∙ text_at routines e r is

pub text_none : (routines : List Routine) (e : EntryId) → slice_get routines e.routine ≡ None
    → None ≡ text_of_entry (trees routines) e
text_none routines e is = go routines e.routine is
  where
    go : (rs : List Routine) (i : ℕ) → slice_get rs i ≡ None → None ≡ option_and_then (text_in e.line) (slice_get (trees rs) i)
    go [] i h = refl
    go (q ∷ rs) zero h = cc h
    go (q ∷ rs) (suc i) h = go rs i h

pub text_no_line : (routines : List Routine) (e : EntryId) (r : Routine) (o : Option (Bor Line))
    → slice_get routines e.routine ≡ Some r → option_copied o ≡ slice_get r.lines.items e.line → o ≡ None
    → None ≡ text_of_entry (trees routines) e
text_no_line routines e r o is here none =
    ap (option_map (λ x. text_with (label_of (line_of x.now).0) r.name)) (sym none)
    ∙ copied (λ x. text_with (label_of (line_of x).0) r.name) o
    ∙ ap (option_map (λ x. text_with (label_of (line_of x).0) r.name)) here
    ∙ text_at routines e r is
