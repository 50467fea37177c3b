-- Local names, the cells to which they are bound, and the effect of NEW, formals and KILL on them. Restates ISO/IEC 11756,
-- local variables, NEW, KILL, parameter passing. Generations are this project's own.
use Rattle.std.specs.Prelude.{ℕ, ◌==◌, ◌&&◌, ◌||◌, not, nat_lt, Bool, false, if◌then◌else◌, List, [], ◌∷◌, bytes_eq}
use Rattle.std.specs.Prelude.{Option, Some, None}
use Rattle.std.specs.List.{list_any}

-- one name, or all names except these, those included that never occurred
pub data Names : Type 0 where
  Only : (name : List ℕ) → Names
  AllBut : (names : List (List ℕ)) → Names

abbrev pub covers : Names → List ℕ → Bool
covers (Only name) n = bytes_eq name n
covers (AllBut names) n = not (list_any (bytes_eq n) names)

-- A cell, identified by the generation of the NEW or call that created it and the name for which it was created. Each name
-- also has a cell of generation 0, which nothing created.
pub record Cell : Type 0 where
  pub generation : ℕ
  pub name : List ℕ

abbrev pub same_cell : Cell → Cell → Bool
same_cell a b = (a.generation == b.generation) && bytes_eq a.name b.name

-- A change of bindings: NEW, and a call for each formal that is not passed by reference, bind names to new cells; a formal that
-- is passed by reference is bound to the cell of the actual.
pub data Binder : Type 0 where
  Fresh : (generation : ℕ) → (names : Names) → Binder
  ByReference : (formal : List ℕ) → (cell : Cell) → Binder

-- the newest first
abbrev pub Bindings : Type 0
Bindings = List Binder

-- the cell to which a name is bound
abbrev pub look : Bindings → List ℕ → Cell
look [] n = record { generation = 0; name = n }
look (Fresh g names ∷ bs) n = if covers names n then record { generation = g; name = n } else look bs n
look (ByReference formal cell ∷ bs) n = if bytes_eq formal n then cell else look bs n

-- the values of cells, if they have one
abbrev pub Cells : Type 0
Cells = Cell → Option (List ℕ)

abbrev pub no_values : Cells
no_values c = None

abbrev pub put_value : Cell → List ℕ → Cells → Cells
put_value cell value cells c = if same_cell cell c then Some value else cells c

-- cells of this generation and of later ones are removed: nothing is bound to them any more
abbrev pub forgotten : ℕ → Cells → Cells
forgotten next cells c = if nat_lt c.generation next then cells c else None

-- some formal among these names is bound to the cell
abbrev pub is_shared_by_formal : Bindings → Bindings → Names → Cell → Bool
is_shared_by_formal all [] names c = false
is_shared_by_formal all (Fresh g other ∷ bs) names c = is_shared_by_formal all bs names c
is_shared_by_formal all (ByReference formal cell ∷ bs) names c =
    (covers names formal && same_cell (look all formal) c) || is_shared_by_formal all bs names c

-- a cell to which one of the names is bound: by its own name, or by a formal
abbrev pub is_named : Bindings → Names → Cell → Bool
is_named bindings names c =
    (covers names c.name && same_cell (look bindings c.name) c) || is_shared_by_formal bindings bindings names c

-- a cell to which a name that is spared is bound
abbrev pub is_spared : Bindings → Names → Cell → Bool
is_spared bindings (Only name) c = false
is_spared bindings (AllBut names) c = list_any (λ n. same_cell (look bindings n) c) names

-- KILL removes the value of each cell to which one of its names is bound, unless a name that it spares is bound to it too.
abbrev pub killed : Bindings → Names → Cells → Cells
killed bindings names cells c =
    if is_named bindings names c && not (is_spared bindings names c) then None else cells c
