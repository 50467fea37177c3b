-- Lock tables: which jobs may hold which names, each job by its index. This project's own.
use Rattle.std.specs.Prelude.{◌≡◌, ◌⊎◌, ℕ, ◌<◌, ◌==◌, Bool, true, false, ◌&&◌, not, List, Some, length}
use Rattle.std.specs.List.{list_any, slice_get}
use Rattle.std.specs.Map.{lookup}
use Rattle.mlk_names.specs.Lists.{Among}
use Rattle.mlk_names.specs.declared.lock_name.LockName.{LockName}
use Rattle.mlk_machine_locks.specs.declared.holders.Holders.{Holders}
use Rattle.mlk_machine_locks.specs.declared.table.LockTable.{LockTable}
use Rattle.mlk_machine_locks.specs.Counts.{excludes}
use Rattle.mlk_machine_locks.specs.Keys.{keys_of, asked_of, is_under}
use Rattle.mlk_machine_locks.specs.Waiting.{View, Holds, awaited}

-- the index is one of these
abbrev pub is_one : Holders → ℕ → Bool
is_one holders place = list_any (λ p. place == p) holders.places.keys

-- the index is listed under the key
abbrev pub IsListed : LockTable → ℕ → ℕ → Type 0
IsListed t key place = (h : Holders) × (lookup (λ k. key == k) t.holders.entries ≡ Some h) × (is_one h place ≡ true)

-- the job at the index is found by the name
abbrev pub IsFound : LockTable → ℕ → LockName → Type 0
IsFound t place n = (key : ℕ) → Among key (keys_of n) → IsListed t key place

-- what was listed is still listed
abbrev pub ListsAll : LockTable → LockTable → Type 0
ListsAll old new = (key place : ℕ) → IsListed old key place → IsListed new key place

-- the job at the index holds the name
abbrev pub HeldAt : {X : Type 0} → (X → View) → List X → ℕ → LockName → Type 0
HeldAt {X} seen xs i n = (x : X) × (slice_get xs i ≡ Some x) × Holds (seen x) n

-- Each job is found by what it holds. A job may be listed although it holds nothing: it is asked.
abbrev pub Covers : {X : Type 0} → (X → View) → LockTable → List X → Type 0
Covers seen t xs = (i : ℕ) (n : LockName) → HeldAt seen xs i n → IsFound t i n

-- a job with another number that keeps the name from the given one
abbrev pub keeps : {X : Type 0} → (X → View) → ℕ → LockName → X → Bool
keeps seen k n j = not ((seen j).number == k) && excludes (seen j).held n

-- the job at this index, if there is one, does not keep the name
abbrev pub Spares : {X : Type 0} → (X → View) → List X → ℕ → LockName → ℕ → Type 0
Spares {X} seen xs k n i = (j : X) → slice_get xs i ≡ Some j → keeps seen k n j ≡ false

-- the job at this index, if there is one, holds nothing that is listed under the key
abbrev pub IsStale : {X : Type 0} → (X → View) → List X → ℕ → ℕ → Type 0
IsStale {X} seen xs key i = (j : X) → slice_get xs i ≡ Some j → is_under key (seen j).held ≡ false

-- no job that holds a name listed under the key keeps the given one
abbrev pub IsFreeUnder : {X : Type 0} → (X → View) → List X → ℕ → LockName → ℕ → Type 0
IsFreeUnder seen xs k n key =
    (i : ℕ) (m : LockName) → HeldAt seen xs i m → Among key (keys_of m) → Spares seen xs k n i

-- A table of the waiting jobs only: of the first `count` ones, and of all.
abbrev pub CoversSome : {X : Type 0} → (X → View) → LockTable → List X → ℕ → Type 0
CoversSome {X} seen t xs count = (i : ℕ) (x : X) → i < count → slice_get xs i ≡ Some x
    → (0 ≡ length (awaited (seen x).next)) ⊎ ((n : LockName) → Holds (seen x) n → IsFound t i n)

abbrev pub CoversWaiting : {X : Type 0} → (X → View) → LockTable → List X → Type 0
CoversWaiting seen t xs = CoversSome seen t xs (length xs)

-- the jobs that may hold a name which conflicts with one of these are at these indexes
abbrev pub AreAgainst : LockTable → List LockName → List ℕ → Type 0
AreAgainst t names found =
    (n : LockName) → Among n names → (key : ℕ) → Among key (asked_of n) → (i : ℕ) → IsListed t key i → Among i found
