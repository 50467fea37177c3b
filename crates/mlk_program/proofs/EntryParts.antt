-- Parts of routines.
use Rattle.std.proofs.Common.{◌≡◌, ◌+◌, length, refl, sym, ap, ◌∙◌, arith, ℕ, zero, suc, List, [], ◌∷◌, drop, Some, None, ⊎_elim}
use Rattle.std.specs.Prelude.{slice_get, option_and_then}
use Rattle.std.specs.List.{prefix_len}
use Rattle.std.proofs.lemmas.Bool.{cases_Bool}
use Rattle.mlk_syntax.specs.declared.routine.Line.{Line}
use Rattle.mlk_syntax.specs.declared.routine.Routine.{Routine}
use Rattle.mlk_program.specs.Tables.{line_has_no_formals, later_lines, later_of}
use Rattle.mlk_program.specs.Frames.{past_of, part_of}
use Rattle.mlk_program.specs.declared.entry.EntryId.{EntryId}

one_more : (n : ℕ) → 1 + n ≡ suc n
one_more n = omega (arith)

past_is : (later : List Line) → length (drop (prefix_len line_has_no_formals later) later) ≡ past_of later
past_is [] = refl
past_is (l ∷ later) = ⊎_elim
    (λ h. rw h (ap (λ n. length (drop n (l ∷ later))) (one_more (prefix_len line_has_no_formals later)) ∙ past_is later))
    (λ h. rw h refl)
    (cases_Bool (line_has_no_formals l))

later_here : (lines : List Line) (n : ℕ) (l : Line) (others : List Line) → drop n lines ≡ l ∷ others
    → slice_get (later_lines lines) n ≡ Some (prefix_len line_has_no_formals others)
later_here [] zero l others h = cc h
later_here [] (suc n) l others h = cc h
later_here (x ∷ xs) zero l others h = ap (λ ys. Some (prefix_len line_has_no_formals ys)) (rest h)
  where
    rest : x ∷ xs ≡ l ∷ others → xs ≡ others
    rest q = cc q
later_here (x ∷ xs) (suc n) l others h = later_here xs n l others h

same_some : {A : Type 0} {x y : A} → Some x ≡ Some y → x ≡ y
same_some q = cc q

-- the part of a line that exists
pub part_some : (routines : List Routine) (e : EntryId) (r : Routine) (l : Line) (others : List Line) (later : ℕ)
    → slice_get routines e.routine ≡ Some r → drop e.line r.lines.items ≡ l ∷ others → Some later ≡ later_of routines e
    → record { routine = e.routine; past = length (drop later others); left = length (drop e.line r.lines.items) } ≡ part_of routines e
part_some routines e r l others later is here count =
    let counted : slice_get (later_lines r.lines.items) e.line ≡ Some later =
    sym (count ∙ ap (option_and_then (λ q. slice_get (later_lines q.lines.items) e.line)) is) in
    let same : prefix_len line_has_no_formals others ≡ later = same_some (sym (later_here r.lines.items e.line l others here) ∙ counted) in
    let past : length (drop later others) ≡ past_of others = ap (λ n. length (drop n others)) (sym same) ∙ past_is others in
    rw (is, here) (ap (λ p. record { routine = e.routine; past = p; left = suc (length others) }) past)

-- the part if there is no routine
pub part_none : (routines : List Routine) (e : EntryId) → slice_get routines e.routine ≡ None
    → record { routine = e.routine; past = 0; left = 0 } ≡ part_of routines e
part_none routines e is = rw is refl

pub part_past : (routines : List Routine) (e : EntryId) (r : Routine) → slice_get routines e.routine ≡ Some r
    → drop e.line r.lines.items ≡ [] → record { routine = e.routine; past = 0; left = 0 } ≡ part_of routines e
part_past routines e r is past = rw (is, past) refl

-- a line that exists has a count
pub part_counted : (routines : List Routine) (e : EntryId) (r : Routine) (l : Line) (others : List Line)
    → slice_get routines e.routine ≡ Some r → drop e.line r.lines.items ≡ l ∷ others → None ≡ later_of routines e
    → record { routine = e.routine; past = 0; left = 0 } ≡ part_of routines e
part_counted routines e r l others is here none =
    let counted : slice_get (later_lines r.lines.items) e.line ≡ None =
    sym (none ∙ ap (option_and_then (λ q. slice_get (later_lines q.lines.items) e.line)) is) in
    absurd (some_none (sym (later_here r.lines.items e.line l others here) ∙ counted))
  where
    some_none : {x : ℕ} → Some x ≡ None → ⊥
    some_none q = cc q
