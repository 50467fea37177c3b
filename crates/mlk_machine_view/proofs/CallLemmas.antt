-- Whether an entry has a line, and what a call or the next line shows.
use Rattle.std.proofs.Common.{◌≡◌, ◌∙◌, ◌<◌, ◌≤◌, ℕ, zero, suc, true, false, List, [], ◌∷◌, length, drop, map, Some, None, refl, sym, ap, arith, inl, inr, lt_irrefl}
use Rattle.std.proofs.lemmas.Bool.{cases_Bool, ltb-false, ltb-true}
use Rattle.std.specs.Prelude.{nat_lt, slice_get}
use Rattle.mlk_machine_locks.specs.Lists.{is_some_there}
use Rattle.mlk_syntax.specs.declared.routine.Line.{Line}
use Rattle.mlk_syntax.specs.declared.routine.Routine.{Routine}
use Rattle.mlk_syntax.specs.Views.{line_of, routine_of}
use Rattle.mlk_program.specs.declared.entry.EntryId.{EntryId}
use Rattle.mlk_machine_jobs.specs.Calling.{lines_after}
use Rattle.mlk_machine_run.proofs.FrameLemmas.{lines_some, lines_none}

some_left : {A B : Type 0} (f : A → B) (n : ℕ) (xs : List A) → n < length xs → is_some_there (map f (drop n xs)) ≡ true
some_left f zero [] h = absurd (lt_irrefl 0 h)
some_left f zero (x ∷ xs) h = refl
some_left f (suc n) [] h = absurd (lt_irrefl 0 (omega (arith, h)))
some_left f (suc n) (x ∷ xs) h = some_left f n xs (omega (arith, h))

none_left : {A B : Type 0} (f : A → B) (n : ℕ) (xs : List A) → length xs ≤ n → is_some_there (map f (drop n xs)) ≡ false
none_left f zero [] h = refl
none_left f zero (x ∷ xs) h = absurd (lt_irrefl 0 (omega (arith, h)))
none_left f (suc n) [] h = refl
none_left f (suc n) (x ∷ xs) h = none_left f n xs (omega (arith, h))

left_over : {A B : Type 0} (f : A → B) (n : ℕ) (xs : List A) → nat_lt n (length xs) ≡ is_some_there (map f (drop n xs))
left_over f n xs = elim (cases_Bool (nat_lt n (length xs))) [
  | inl t ↦ t ∙ sym (some_left f n xs (ltb-true n (length xs) t))
  | inr t ↦ t ∙ sym (none_left f n xs (ltb-false n (length xs) t))
]

pub no_routine : (rs : List Routine) (e : EntryId) → None ≡ slice_get rs e.routine
    → false ≡ is_some_there (lines_after (map routine_of rs) e)
no_routine rs e h = sym (ap is_some_there (lines_none rs e (sym h)))

pub some_line : (rs : List Routine) (e : EntryId) (r : Routine) (ls : List Line) (k : ℕ) → Some r ≡ slice_get rs e.routine
    → k ≡ e.line → ls ≡ r.lines.items → nat_lt k (length ls) ≡ is_some_there (lines_after (map routine_of rs) e)
some_line rs e r ls k h same lines = rw (same, lines)
    (left_over line_of e.line r.lines.items ∙ sym (ap is_some_there (lines_some rs e r (sym h))))
