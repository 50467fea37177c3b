-- Comparisons of lock names, as tests: which is above the other, which conflict, which are equal. A law says that they decide
-- the relations of `mlk_names` (ISO/IEC 11756, LOCK). This project's own.
use Rattle.std.specs.Prelude.{ℕ, Bool, true, false, ◌&&◌, ◌||◌, List, [], ◌∷◌, bytes_eq}
use Rattle.mlk_text.specs.declared.root.Root.{Root}
use Rattle.mlk_text.specs.declared.root.Root.TheVariants.{Global, Local}
use Rattle.mlk_names.specs.declared.lock_name.LockName.{LockName}

abbrev pub same_root : Root → Root → Bool
same_root (Global a) (Global b) = bytes_eq a b
same_root (Local a) (Local b) = bytes_eq a b
same_root (Global a) (Local b) = false
same_root (Local a) (Global b) = false

-- the second list of subscripts begins with the first
abbrev pub are_first : List (List ℕ) → List (List ℕ) → Bool
are_first [] ys = true
are_first (x ∷ xs) [] = false
are_first (x ∷ xs) (y ∷ ys) = bytes_eq x y && are_first xs ys

-- the first name is the second, or above it
unfoldable pub is_above : LockName → LockName → Bool
is_above m n = same_root m.root n.root && are_first m.subs n.subs

-- one name is the other, or above it
unfoldable pub in_conflict : LockName → LockName → Bool
in_conflict m n = is_above m n || is_above n m

-- both are equal
unfoldable pub same_name : LockName → LockName → Bool
same_name m n = is_above m n && is_above n m
