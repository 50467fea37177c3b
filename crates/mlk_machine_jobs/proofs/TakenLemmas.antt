-- KILL by the cells that names are bound to.
use Rattle.std.proofs.Common.{◌≡◌, ◌∙◌, ◌≤◌, ◌<◌, ◌-◌, ℕ, Bool, List, [], ◌∷◌, ◌++◌, map, length, take, get_or, Option, Some, None, refl, sym, ap, inl, inr, append_assoc}
use Rattle.std.specs.Prelude.{◌&&◌, ◌||◌, not, if◌then◌else◌}
use Rattle.std.specs.List.{list_any}
use Rattle.std.proofs.lemmas.Bool.{cases_Bool}
use Rattle.mlk_machine_jobs.specs.declared.binding.Binder.{Binder as BinderIn}
use Rattle.mlk_machine_jobs.specs.declared.binding.Cell.{Cell as CellIn}
use Rattle.mlk_machine_jobs.specs.declared.binding.Names.{Names as NamesIn}
use Rattle.mlk_machine_jobs.specs.Bindings.{Names, Only, AllBut, Cell, Fresh, ByReference, Bindings, Cells, covers, same_cell, look, is_shared_by_formal, is_named, is_spared, killed}
use Rattle.mlk_machine_jobs.specs.Killing.{is_in, cell_of_formal, in_front, cells_of_formals, cells_spared, without_taken}
use Rattle.mlk_machine_jobs.specs.Views.{names_of, cell_of, binder_of, bindings_of}
use Rattle.mlk_machine_jobs.proofs.BinderLemmas.{turned}
use Rattle.mlk_machine_jobs.proofs.CellLemmas.{one_function}

pub any_of : (cells : List CellIn) (c : Cell) → list_any (λ d. same_cell (cell_of d) c) cells ≡ is_in (map cell_of cells) c
any_of [] c = refl
any_of (d ∷ cells) c = ap (λ (b : Bool). same_cell (cell_of d) c || b) (any_of cells c)

formals_shared : (all bs : Bindings) (names : Names) (c : Cell)
    → is_in (cells_of_formals all bs names) c ≡ is_shared_by_formal all bs names c
formals_shared all [] names c = refl
formals_shared all (Fresh g other ∷ bs) names c = formals_shared all bs names c
formals_shared all (ByReference formal cell ∷ bs) names c = elim (cases_Bool (covers names formal)) [
  | inl e ↦ rw e (ap (λ (b : Bool). same_cell (look all formal) c || b) (formals_shared all bs names c))
  | inr e ↦ rw e (formals_shared all bs names c)
]

each_spared : (bs : Bindings) (names : List (List ℕ)) (c : Cell)
    → is_in (map (look bs) names) c ≡ list_any (λ n. same_cell (look bs n) c) names
each_spared bs [] c = refl
each_spared bs (n ∷ names) c = ap (λ (b : Bool). same_cell (look bs n) c || b) (each_spared bs names c)

names_spared : (bs : Bindings) (names : Names) (c : Cell) → is_in (cells_spared bs names) c ≡ is_spared bs names c
names_spared bs (Only name) c = refl
names_spared bs (AllBut names) c = each_spared bs names c

taken_at : (bs : Bindings) (names : Names) (cells : Cells) (c : Cell)
    → without_taken bs names (cells_of_formals bs bs names) (cells_spared bs names) cells c ≡ killed bs names cells c
taken_at bs names cells c =
    ap (λ (b : Bool). if b then None else cells c) (
    ap (λ (b : Bool). ((covers names c.name && same_cell (look bs c.name) c) || b) && not (is_in (cells_spared bs names) c))
    (formals_shared bs bs names c)
    ∙ ap (λ (b : Bool). is_named bs names c && not b) (names_spared bs names c)
    )

pub taken_killed : (bs : Bindings) (names : Names) (cells : Cells)
    → without_taken bs names (cells_of_formals bs bs names) (cells_spared bs names) cells ≡ killed bs names cells
taken_killed bs names cells = one_function _ _ (taken_at bs names cells)

-- the binders from the newest on: one of a formal of these names, or another
pub formal_past : (all : Bindings) (names : Names) (bs : List BinderIn) (count : ℕ) (b : BinderIn) (found whole : List Cell)
    → 0 < count → count ≤ length bs → b ≡ get_or bs (count - 1) b → None ≡ cell_of_formal all names (binder_of b)
    → found ++ cells_of_formals all (bindings_of (take count bs)) names ≡ whole
    → found ++ cells_of_formals all (bindings_of (take (count - 1) bs)) names ≡ whole
formal_past all names bs count b found whole p l e h k =
    ap (λ (o : Option Cell). found ++ in_front o (cells_of_formals all (bindings_of (take (count - 1) bs)) names)) h
    ∙ ap (λ (z : Bindings). found ++ cells_of_formals all z names) (sym (turned bs count b p l e))
    ∙ k

pub formal_found : (all : Bindings) (names : Names) (bs : List BinderIn) (count : ℕ) (b : BinderIn) (c : Cell)
    (found whole : List Cell) → 0 < count → count ≤ length bs → b ≡ get_or bs (count - 1) b
    → Some c ≡ cell_of_formal all names (binder_of b)
    → found ++ cells_of_formals all (bindings_of (take count bs)) names ≡ whole
    → (found ++ c ∷ []) ++ cells_of_formals all (bindings_of (take (count - 1) bs)) names ≡ whole
formal_found all names bs count b c found whole p l e h k =
    append_assoc found (c ∷ []) (cells_of_formals all (bindings_of (take (count - 1) bs)) names)
    ∙ ap (λ (o : Option Cell). found ++ in_front o (cells_of_formals all (bindings_of (take (count - 1) bs)) names)) h
    ∙ ap (λ (z : Bindings). found ++ cells_of_formals all z names) (sym (turned bs count b p l e))
    ∙ k

pub killed_by : (bs b c d : List BinderIn) (names : NamesIn) (shared s spared p : List CellIn) (cells new : Cells)
    → b ≡ bs → c ≡ bs → d ≡ bs → s ≡ shared → p ≡ spared
    → map cell_of shared ≡ cells_of_formals (bindings_of b) (bindings_of b) (names_of names)
    → map cell_of spared ≡ cells_spared (bindings_of c) (names_of names)
    → new ≡ without_taken (bindings_of d) (names_of names) (map cell_of s) (map cell_of p) cells
    → new ≡ killed (bindings_of bs) (names_of names) cells
killed_by bs b c d names shared s spared p cells new e i l m o h k v =
    v ∙ rw (l, m, o) (rw (h, k) (rw (e, i) (taken_killed (bindings_of bs) (names_of names) cells)))
