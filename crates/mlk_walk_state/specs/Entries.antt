-- Adding to a table of entries. For private clauses only. This project's own.
use Rattle.std.specs.Prelude.{if◌then◌else◌, List, [], ◌∷◌, ◌++◌, map, not, filter, Option, Some, None}
use Rattle.mlk_program.specs.declared.entry.EntryId.{EntryId}
use Rattle.mlk_walk_state.specs.Scope.{has_entry}

-- the items whose entries are not among these yet
abbrev pub further : {A : Type 0} → (A → EntryId) → List A → List A → List A
further entry found items = filter (λ a. not (has_entry (map entry found) (entry a))) items

-- the items and one more, unless its entry is among them
abbrev pub gained : {A : Type 0} → (A → EntryId) → List A → A → List A
gained entry found a = if has_entry (map entry found) (entry a) then found else found ++ a ∷ []

abbrev pub gained_if : {A : Type 0} → (A → EntryId) → List A → Option A → List A
gained_if entry found None = found
gained_if entry found (Some a) = gained entry found a
