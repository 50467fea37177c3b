-- The tasks of assignments, by the names of the targets. This project's own.
use Rattle.std.specs.Prelude.{ℕ, Bool, true, false, List, [], ◌∷◌, ◌++◌, Option, Some, None}
use Rattle.mlk_names.specs.declared.reference.Extent.TheVariants as extent
use Rattle.mlk_names.specs.declared.reference.Access.TheVariants.{Reads, Writes}
use Rattle.mlk_syntax.specs.ExprTrees.{Tree, GlobalName}
use Rattle.mlk_syntax.specs.Trees.{VariableTree, Named}
use Rattle.mlk_machine_jobs.specs.Tasks.{Task, Drop, Store, StoreAny, StoreLast, DoTouch}
use Rattle.mlk_machine_jobs.specs.Choices.{touch_at}

abbrev pub is_global : Tree → Bool
is_global (GlobalName column name subs) = true
is_global _ = false

-- the name of a global
abbrev pub global_name : VariableTree → Option (List ℕ)
global_name (Named column (GlobalName caret name subs)) = Some name
global_name v = None

-- a node is read, and then written
abbrev pub read_and_written : List ℕ → List (List ℕ) → List Task
read_and_written name subs =
    DoTouch (touch_at name subs extent.Node Reads) ∷ Drop 1 ∷ DoTouch (touch_at name subs extent.Node Writes) ∷ []

-- to a local without subscripts, or to a global, if there is one
abbrev pub whole_assigned : List ℕ → List (List ℕ) → Option (List ℕ) → Option (List ℕ) → List Task
whole_assigned value subs (Some name) global = Store name value ∷ []
whole_assigned value subs None (Some name) = DoTouch (touch_at name subs extent.Node Writes) ∷ []
whole_assigned value subs None None = []

abbrev pub part_assigned : List (List ℕ) → Option (List ℕ) → Option (List ℕ) → List Task
part_assigned subs (Some name) global = StoreAny name ∷ []
part_assigned subs None (Some name) = read_and_written name subs
part_assigned subs None None = []

-- the tree of a global is read
abbrev pub source_read : List (List ℕ) → Option (List ℕ) → List Task
source_read subs None = []
source_read subs (Some name) = DoTouch (touch_at name subs extent.Tree Reads) ∷ []

-- merges the tree that was read, or any value, into a local
abbrev pub into_local : List ℕ → Bool → List Task
into_local name true = StoreLast name ∷ []
into_local name false = StoreAny name ∷ []

-- drops the value that was read
abbrev pub unread : Bool → List Task
unread true = Drop 1 ∷ []
unread false = []

abbrev pub tree_written : List (List ℕ) → Option (List ℕ) → List Task
tree_written subs None = []
tree_written subs (Some name) = DoTouch (touch_at name subs extent.Tree Writes) ∷ []

-- MERGE into a local without subscripts, or into a global, with a tree that was read or without
abbrev pub merged_into : List (List ℕ) → Option (List ℕ) → Option (List ℕ) → Bool → List Task
merged_into subs (Some name) global is_read = into_local name is_read
merged_into subs None global is_read = unread is_read ++ tree_written subs global
