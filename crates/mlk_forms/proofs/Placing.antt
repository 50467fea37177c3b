-- Lines of rows after their places, one by one.
use Rattle.std.proofs.Common.{◌≡◌, ℕ, ◌<◌, ◌+◌, ◌≤◌, ◌++◌, List, length, drop, slice_index_or, sym, subst, refl, Result, Ok, Err}
use Rattle.std.specs.Prelude.{IfOk}
use Rattle.std.proofs.lemmas.List.{drop_all, drop_more}
use Rattle.mlk_syntax.specs.Trees.{RoutineTree}
use Rattle.mlk_walk.specs.declared.report.Row.{Row}
use Rattle.mlk_plain_report.specs.Texts.{row_line}
use Rattle.mlk_forms.specs.Rendering.{ArePlaced, IsPlace}

pub if-ok : {X E : Type 0} (r : Result X E) (P Q : X → Type 0) → ((x : X) → P x → Q x) → IfOk r P → IfOk r Q
if-ok (Ok x) P Q f h = f x h
if-ok (Err e) P Q f h = h

pub placed-more : (trees : List RoutineTree) (rows : List Row) (i : ℕ) (d : Row) (old text place longer : List ℕ) → i < length rows → IsPlace (slice_index_or rows i d) place
    → longer ≡ (text ++ place) ++ row_line trees (slice_index_or rows i d)
    → ((new : List ℕ) → ArePlaced trees (drop i rows) text new → ArePlaced trees rows old new)
    → (new : List ℕ) → ArePlaced trees (drop (i + 1) rows) longer new → ArePlaced trees rows old new
placed-more trees rows i d old text place longer less placed is before new h =
    before new (subst (λ l. ArePlaced trees l text new) (sym (drop_more rows i d less)) (place, placed, subst (λ t. ArePlaced trees (drop (i + 1) rows) t new) is h))

pub placed-all : (trees : List RoutineTree) (rows : List Row) (i : ℕ) (old text : List ℕ) → length rows ≤ i → ((new : List ℕ) → ArePlaced trees (drop i rows) text new → ArePlaced trees rows old new) → ArePlaced trees rows old text
placed-all trees rows i old text past before = before text (subst (λ l. ArePlaced trees l text text) (sym (drop_all i rows past)) refl)
