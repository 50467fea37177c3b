-- KILL of names, by the cells to which they are bound. This project's own.
use Rattle.std.specs.Prelude.{◌&&◌, ◌||◌, not, if◌then◌else◌, Bool, List, [], ◌∷◌, map, Option, Some, None}
use Rattle.std.specs.List.{list_any}
use Rattle.mlk_machine_jobs.specs.Bindings.{Names, Only, AllBut, Cell, Binder, Fresh, ByReference, Bindings, Cells, covers, same_cell, look}

abbrev pub is_in : List Cell → Cell → Bool
is_in cells c = list_any (λ d. same_cell d c) cells

-- the cells to which formals among these names are bound
abbrev pub cell_of_formal : Bindings → Names → Binder → Option Cell
cell_of_formal all names (Fresh g other) = None
cell_of_formal all names (ByReference formal cell) = if covers names formal then Some (look all formal) else None

abbrev pub in_front : Option Cell → List Cell → List Cell
in_front None cells = cells
in_front (Some cell) cells = cell ∷ cells

abbrev pub cells_of_formals : Bindings → Bindings → Names → List Cell
cells_of_formals all [] names = []
cells_of_formals all (b ∷ bs) names = in_front (cell_of_formal all names b) (cells_of_formals all bs names)

-- the cells of the names that are spared
abbrev pub cells_spared : Bindings → Names → List Cell
cells_spared bindings (Only name) = []
cells_spared bindings (AllBut names) = map (look bindings) names

-- the name for which the cell was created is one of the names, and is bound to it
abbrev pub is_own : Bindings → Names → Cell → Bool
is_own bindings names c = covers names c.name && same_cell (look bindings c.name) c

-- a cell of one of the names, by its own name or by a formal, that is not a cell of a name that is spared
abbrev pub is_taken : Bindings → Names → List Cell → List Cell → Cell → Bool
is_taken bindings names shared spared c =
    (is_own bindings names c || is_in shared c) && not (is_in spared c)

abbrev pub without_taken : Bindings → Names → List Cell → List Cell → Cells → Cells
without_taken bindings names shared spared cells c = if is_taken bindings names shared spared c then None else cells c
