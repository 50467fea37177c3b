-- The definition's values, from those of the code. This project's own.
use Rattle.std.specs.Prelude.{◌≡◌, ℕ, List, map, reverse, bytes_eq, if◌then◌else◌, Option, Some, None, slice_get}
use Rattle.std.specs.Map.{lookup}
use Rattle.mlk_machine_jobs.specs.declared.binding.Names.{Names as NamesIn}
use Rattle.mlk_machine_jobs.specs.declared.binding.Names.TheVariants as names
use Rattle.mlk_machine_jobs.specs.declared.binding.Cell.{Cell as CellIn}
use Rattle.mlk_machine_jobs.specs.declared.binding.Binder.{Binder as BinderIn}
use Rattle.mlk_machine_jobs.specs.declared.binding.Binder.TheVariants as binder
use Rattle.mlk_machine_jobs.specs.declared.cell.CellTable.{CellTable}
use Rattle.mlk_machine_jobs.specs.Bindings.{Names, Only, AllBut, Cell, Binder, Fresh, ByReference, Bindings, Cells, covers, same_cell}

abbrev pub names_of : NamesIn → Names
names_of (names.Only name) = Only name.now
names_of (names.AllBut others) = AllBut others.now

abbrev pub cell_of : CellIn → Cell
cell_of c = record { generation = c.generation; name = c.name.now }

abbrev pub binder_of : BinderIn → Binder
binder_of (binder.Fresh g names) = Fresh g (names_of names)
binder_of (binder.ByReference formal cell) = ByReference formal.now (cell_of cell)

-- the last binder of the code is the newest
abbrev pub bindings_of : List BinderIn → Bindings
bindings_of binders = reverse (map binder_of binders)

-- the cell to which one binder binds a name, if it binds it
abbrev pub bound_by : Binder → List ℕ → Option Cell
bound_by (Fresh g names) n = if covers names n then Some (record { generation = g; name = n }) else None
bound_by (ByReference formal cell) n = if bytes_eq formal n then Some cell else None

-- The values of one generation, and of all: a generation without a table has no values.
abbrev pub in_table : CellTable → List ℕ → Option (List ℕ)
in_table t n = lookup (λ k. bytes_eq n k.now) t.values.entries

-- sets or removes the value of a name
abbrev pub PutsValue : List ℕ → Option (List ℕ) → CellTable → CellTable → Type 0
PutsValue name value old new = (n : List ℕ) → in_table new n ≡ (if bytes_eq name n then value else in_table old n)

abbrev pub value_in : List ℕ → Option CellTable → Option (List ℕ)
value_in n None = None
value_in n (Some t) = in_table t n

abbrev pub value_at : List CellTable → Cells
value_at tables c = value_in c.name (slice_get tables c.generation)

-- a cell loses its value
abbrev pub without : Cell → Cells → Cells
without cell cells c = if same_cell cell c then None else cells c
