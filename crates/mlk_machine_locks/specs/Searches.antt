-- What a search for a ring has established: which jobs are in none, and the path that it follows, on which each job waits for
-- the next. Jobs are identified by their indexes. This project's own.
use Rattle.std.specs.Prelude.{⊤, ◌≡◌, ◌≢◌, ◌⊎◌, ◌+◌, ℕ, Bool, true, false, Some, List, [], ◌∷◌, length, map}
use Rattle.std.specs.List.{slice_get, sum_by}
use Rattle.mlk_names.specs.Lists.{Among}
use Rattle.mlk_machine_locks.specs.declared.ring.Mark.{Mark}
use Rattle.mlk_machine_locks.specs.declared.ring.Mark.TheVariants.{New, OnPath, Free}
use Rattle.mlk_machine_locks.specs.declared.ring.Stop.{Stop}
use Rattle.mlk_machine_locks.specs.Rings.{left}

-- it is in no ring
abbrev pub IsFree : {X : Type 0} → (X → X → Bool) → List X → X → Type 0
IsFree waits xs x = Among x (left waits xs) → ⊥

abbrev pub FreeAt : {X : Type 0} → (X → X → Bool) → List X → ℕ → Type 0
FreeAt {X} waits xs i = (x : X) → slice_get xs i ≡ Some x → IsFree waits xs x

-- it is marked as free
unfoldable pub is_free : Mark → Bool
is_free New = false
is_free OnPath = false
is_free Free = true

-- it was not visited yet
unfoldable pub is_new : Mark → Bool
is_new New = true
is_new OnPath = false
is_new Free = false

-- those with this mark are in no ring
abbrev pub AreFree : {X : Type 0} → (X → X → Bool) → List X → List Mark → Type 0
AreFree waits xs marks = (i : ℕ) → slice_get marks i ≡ Some Free → FreeAt waits xs i

-- it does not wait for the job at this index, or that one is in no ring
abbrev pub WaitsFreely : {X : Type 0} → (X → X → Bool) → List X → X → ℕ → Type 0
WaitsFreely {X} waits xs x i = (y : X) → slice_get xs i ≡ Some y → waits x y ≡ true → IsFree waits xs y

-- it waits at most for the jobs at these indexes, and for jobs that are in no ring
abbrev pub Waits : {X : Type 0} → (X → X → Bool) → List X → X → List ℕ → Type 0
Waits waits xs x left = (i : ℕ) → Among i left ⊎ WaitsFreely waits xs x i

-- it waits for the job at this index
pub record WaitsAt {X : Type 0} (waits : X → X → Bool) (xs : List X) (x : X) (i : ℕ) : Type 0 where
  pub other : X
  pub is_at : slice_get xs i ≡ Some other
  pub does : waits x other ≡ true

-- one to follow: it is waited for, and not marked as free
pub record IsNext {X : Type 0} (waits : X → X → Bool) (xs : List X) (marks : List Mark) (x : X) (i : ℕ) : Type 0 where
  pub waits_for : WaitsAt waits xs x i
  pub mark : Mark
  pub is_marked : slice_get marks i ≡ Some mark
  pub is_left : mark ≢ Free

-- a stop of a path, with the indexes that are left to follow
pub record IsStop {X : Type 0} (waits : X → X → Bool) (xs : List X) (s : Stop) : Type 0 where
  pub job : X
  pub is_at : slice_get xs s.place ≡ Some job
  pub left : Waits waits xs job s.left.items

-- the last stop of a path waits for the job at this index, if there is one
abbrev pub Leads : {X : Type 0} → (X → X → Bool) → List X → List Stop → ℕ → Type 0
Leads waits xs [] i = ⊤
Leads {X} waits xs (s ∷ before) i = (x : X) × (slice_get xs s.place ≡ Some x) × WaitsAt waits xs x i

-- a path, the last stop first
abbrev pub IsPath : {X : Type 0} → (X → X → Bool) → List X → List Stop → Type 0
IsPath waits xs [] = ⊤
IsPath waits xs (s ∷ before) = IsStop waits xs s × Leads waits xs before s.place × IsPath waits xs before

abbrev pub places : List Stop → List ℕ
places path = map (λ s. s.place) path

-- it is on the path, or in no ring
abbrev pub IsMet : {X : Type 0} → (X → X → Bool) → List X → List Stop → ℕ → Type 0
IsMet waits xs path i = FreeAt waits xs i ⊎ Among i (places path)

pub record Searching {X : Type 0} (waits : X → X → Bool) (xs : List X) (marks : List Mark) (path : List Stop) : Type 0 where
  pub all : length marks ≡ length xs
  pub free : AreFree waits xs marks
  pub on_path : (i : ℕ) → slice_get marks i ≡ Some OnPath → Among i (places path)
  pub is_path : IsPath waits xs path

-- an upper bound of the work that is left: each new job may be put on the path and be removed from it
abbrev pub weight : Mark → ℕ
weight New = 2
weight OnPath = 0
weight Free = 0

abbrev pub work : List Mark → List Stop → ℕ
work marks path = sum_by weight marks + length path
