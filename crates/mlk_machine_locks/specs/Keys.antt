-- Keys of lock names: numbers by which a table finds the jobs that may hold a name. Different names may have the same key, so a
-- job that is found is asked what it holds. This project's own.
use Rattle.std.specs.Prelude.{ℕ, ◌+◌, ◌*◌, ◌%◌, ◌^◌, ◌==◌, Bool, ◌&&◌, nat_lt, List, [], ◌∷◌}
use Rattle.std.specs.List.{list_any}
use Rattle.mlk_text.specs.declared.root.Root.{Root}
use Rattle.mlk_text.specs.declared.root.Root.TheVariants.{Global, Local}
use Rattle.mlk_names.specs.declared.lock_name.LockName.{LockName}
use Rattle.mlk_machine_locks.specs.Counts.{Counts}

unfoldable pub mixed_one : ℕ → ℕ → ℕ
mixed_one key b = ((key * 1099511628211) % 2 ^ 64 + b) % 2 ^ 64

abbrev pub mixed : ℕ → List ℕ → ℕ
mixed key [] = key
mixed key (b ∷ bs) = mixed (mixed_one key b) bs

-- the key of the root of a name, that of the names one subscript below a name, and that of a name alone, without those below it
unfoldable pub root_key : Root → ℕ
root_key (Global name) = mixed 1 name
root_key (Local name) = mixed 2 name

unfoldable pub deeper : ℕ → List ℕ → ℕ
deeper key subscript = mixed (mixed_one key 256) subscript

unfoldable pub itself : ℕ → ℕ
itself key = mixed_one key 257

-- A job that holds a name is listed under the keys of that name and of each one above it, and under the key of the name alone.
abbrev pub keys_from : ℕ → List (List ℕ) → List ℕ
keys_from key [] = key ∷ itself key ∷ []
keys_from key (s ∷ ss) = key ∷ keys_from (deeper key s) ss

abbrev pub keys_of : LockName → List ℕ
keys_of n = keys_from (root_key n.root) n.subs

-- A claim of a name looks up the key of the name, for those below it, and the keys of the name and of each one above it alone.
abbrev pub asked_from : ℕ → List (List ℕ) → List ℕ
asked_from key [] = itself key ∷ key ∷ []
asked_from key (s ∷ ss) = itself key ∷ asked_from (deeper key s) ss

abbrev pub asked_of : LockName → List ℕ
asked_of n = asked_from (root_key n.root) n.subs

-- a job that holds these names is listed under the key because of one of them
abbrev pub is_under : ℕ → Counts → Bool
is_under key held = list_any (λ h. nat_lt 0 h.1 && list_any (λ k. key == k) (keys_of h.0)) held
