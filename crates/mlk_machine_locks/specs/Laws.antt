-- Laws of jobs that share locks.
use Rattle.std.specs.Prelude.{◌≡◌, ◌≢◌, ◌↔◌, ℕ, suc, ◌<◌, Bool, true, List, [], ◌∷◌, Ok, ◌==◌, not, filter}
use Rattle.mlk_names.specs.Lists.{Among}
use Rattle.mlk_names.specs.declared.lock_name.LockName.{LockName}
use Rattle.mlk_names.specs.LockNames.{IsAbove, Conflict}
use Rattle.mlk_machine_locks.specs.NameTests.{is_above, in_conflict, same_name}
use Rattle.mlk_machine_locks.specs.Counts.{Counts, count_of, raised, lowered, excludes}
use Rattle.mlk_machine_locks.specs.Rings.{HasRing, has_ring}
use Rattle.mlk_machine_locks.specs.Waiting.{View, Holds, WaitsFor, waits, waits_as}
use Rattle.mlk_machine_locks.specs.Systems.{Machine, Act, Event, number, happens, after, IsAlone}

-- The tests of names decide the relations.
pub record NamesTested : Type 0 where
  pub above : (m n : LockName) → (is_above m n ≡ true) ↔ IsAbove m n
  pub conflict : (m n : LockName) → (in_conflict m n ≡ true) ↔ Conflict m n
  pub same : (m n : LockName) → (same_name m n ≡ true) ↔ (m ≡ n)

-- A claim adds one to the count of its name, and changes no other.
abbrev pub ClaimAddsOne : Type 0
ClaimAddsOne = (m : LockName) (held : Counts)
    → (count_of (raised m held) m ≡ suc (count_of held m))
    × ((n : LockName) → m ≢ n → count_of (raised m held) n ≡ count_of held n)

-- A release subtracts one from the count of its name if it is held, and nothing if it is not; it changes no other.
abbrev pub ReleaseTakesOne : Type 0
ReleaseTakesOne = (m : LockName) (held : Counts)
    → (0 < count_of held m → suc (count_of (lowered m held) m) ≡ count_of held m)
    × (count_of held m ≡ 0 → count_of (lowered m held) m ≡ 0)
    × ((n : LockName) → m ≢ n → count_of (lowered m held) n ≡ count_of held n)

-- Names are kept from others by held names, and by nothing else.
abbrev pub ExcludesHeld : Type 0
ExcludesHeld = (held : Counts) (n : LockName)
    → (excludes held n ≡ true) ↔ ((m : LockName) × (0 < count_of held m) × Conflict n m)

-- One job waits for another exactly if the test says so.
abbrev pub WaitingIsTested : Type 0
WaitingIsTested = (a b : View) → (waits a b ≡ true) ↔ WaitsFor a b

-- `WaitsFor` for jobs of any kind, each by its view.
abbrev pub Waits : {X : Type 0} → (X → View) → X → X → Type 0
Waits view x y = WaitsFor (view x) (view y)

abbrev pub has_ring_of : {X : Type 0} → (X → View) → List X → Bool
has_ring_of view xs = has_ring (waits_as view) xs

-- The test finds a ring exactly if there is one.
abbrev pub RingsAreFound : {X : Type 0} → (X → View) → Type 0
RingsAreFound {X} view = (jobs : List X) → (has_ring_of view jobs ≡ true) ↔ HasRing (Waits view) jobs

-- No two jobs have the same number.
abbrev pub NumbersDiffer : {X : Type 0} → (X → View) → List X → Type 0
NumbersDiffer view [] = Unit {0}
NumbersDiffer {X} view (x ∷ xs) = ((y : X) → Among y xs → (view y).number ≢ (view x).number) × NumbersDiffer view xs

-- In each run the numbers of the jobs are distinct.
abbrev pub NumbersDistinct : {J C E : Type 0} → Machine J C E → Type 0
NumbersDistinct {J} {C} {E} m =
    (events : List (Event C E)) (jobs : List J) → after m events [] ≡ Ok jobs → NumbersDiffer m.view jobs

-- No name that one job holds conflicts with one that another holds.
abbrev pub AreApart : {X : Type 0} → (X → View) → List X → Type 0
AreApart {X} view xs =
    (i j : X) → Among i xs → Among j xs → (view i).number ≢ (view j).number
    → (m n : LockName) → Holds (view i) m → Holds (view j) n → Conflict m n → ⊥

-- In each run, whatever its jobs do, no two of them hold conflicting names.
abbrev pub HeldApart : {J C E : Type 0} → Machine J C E → Type 0
HeldApart {J} {C} {E} m =
    (events : List (Event C E)) (jobs : List J) → after m events [] ≡ Ok jobs → AreApart m.view jobs

-- Each job of a run is the result of its own acts.
abbrev pub OneRunOfMany : {J C E : Type 0} → Machine J C E → Type 0
OneRunOfMany {J} {C} {E} m =
    (events : List (Event C E)) (jobs : List J) → after m events [] ≡ Ok jobs
    → (j : J) → Among j jobs → IsAlone m events j

-- The events, and the jobs, of all other numbers. Without the events of one job a run is a run of the others: so a number may be
-- used again once its job is left out.
abbrev pub without : {C E : Type 0} → ℕ → List (Event C E) → List (Event C E)
without k events = filter (λ e. not (e.job == k)) events

abbrev pub others : {J C E : Type 0} → Machine J C E → ℕ → List J → List J
others m k jobs = filter (λ j. not (number m j == k)) jobs

abbrev pub LeavingOut : {J C E : Type 0} → Machine J C E → Type 0
LeavingOut {J} {C} {E} m =
    (events : List (Event C E)) (jobs : List J) → after m events [] ≡ Ok jobs
    → (k : ℕ) → after m (without k events) [] ≡ Ok (others m k jobs)

-- An event of one job changes none of the others, nor their order.
abbrev pub ChangesOne : {J C E : Type 0} → Machine J C E → Type 0
ChangesOne {J} {C} {E} m =
    (k : ℕ) (act : Act C E) (jobs later : List J) → happens m jobs k act ≡ Ok later
    → others m k later ≡ others m k jobs
