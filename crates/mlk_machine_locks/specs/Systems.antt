-- Systems of jobs, independent of the language: jobs share only the locks. What a job reads of the globals and of the world
-- is a choice, which is part of the event; so a step depends on the job, the choice, and on which names are free. This
-- project's own: M's standard describes a single process, and the effect of LOCK on others.
use Rattle.std.specs.Prelude.{◌≡◌, ◌⊎◌, ℕ, suc, ◌==◌, Bool, true, if◌then◌else◌, List, [], ◌∷◌, ◌++◌, Option, Result, Ok, Err}
use Rattle.mlk_names.specs.declared.lock_name.LockName.{LockName}
use Rattle.mlk_machine_locks.specs.declared.refusal.Refusal.{Refusal}
use Rattle.mlk_machine_locks.specs.declared.refusal.Refusal.TheVariants.{UnknownJob, NotEnabled}
use Rattle.mlk_machine_locks.specs.Waiting.{View, Holds, is_free_among, is_numbered}

-- The parts of a machine, with jobs J, choices C and entries E. If something can't happen, the result is the reason.
pub record Machine (J C E : Type 0) : Type 0 where
  pub view : J → View
  -- a job that begins at an entry, with `$TEST`, an optional value for each of the first formals, and a number
  pub begin : E → Bool → List (Option (List ℕ)) → ℕ → Result J Refusal
  -- one step with a given choice, given which names are free
  pub go : (LockName → Bool) → C → J → Result J Refusal
  pub abort : J → Result J Refusal

pub data Act (C E : Type 0) : Type 0 where
  Begin : (entry : E) (test : Bool) (values : List (Option (List ℕ))) → Act C E
  Go : (choice : C) → Act C E
  Abort : Act C E

pub record Event (C E : Type 0) : Type 0 where
  pub job : ℕ
  pub act : Act C E

-- uses a result, if there is one
abbrev pub and_then : {A B : Type 0} → (A → Result B Refusal) → Result A Refusal → Result B Refusal
and_then f (Ok a) = f a
and_then f (Err why) = Err why

abbrev pub number : {J C E : Type 0} → Machine J C E → J → ℕ
number m j = (m.view j).number

-- no other job holds a conflicting name
abbrev pub is_free : {J C E : Type 0} → Machine J C E → List J → ℕ → LockName → Bool
is_free m = is_free_among m.view

abbrev pub is_used : {J C E : Type 0} → Machine J C E → List J → ℕ → Bool
is_used m = is_numbered m.view

-- the jobs, with the one with this number changed
abbrev pub changed : {J C E : Type 0} → Machine J C E → (J → Result J Refusal) → ℕ → List J → Result (List J) Refusal
changed m f k [] = Err UnknownJob
changed m f k (j ∷ js) =
    if number m j == k then and_then (λ i. Ok (i ∷ js)) (f j) else and_then (λ is. Ok (j ∷ is)) (changed m f k js)

-- a new job, after the others; its number must be unused
abbrev pub joined : {J C E : Type 0} → Machine J C E → ℕ → List J → Result J Refusal → Result (List J) Refusal
joined m k jobs new = if is_used m jobs k then Err NotEnabled else and_then (λ j. Ok (jobs ++ j ∷ [])) new

abbrev pub happens : {J C E : Type 0} → Machine J C E → List J → ℕ → Act C E → Result (List J) Refusal
happens m jobs k (Begin e test values) = joined m k jobs (m.begin e test values k)
happens m jobs k (Go choice) = changed m (m.go (is_free m jobs k) choice) k jobs
happens m jobs k Abort = changed m m.abort k jobs

-- the jobs after these events, or why the first of them that can't happen can't
abbrev pub after : {J C E : Type 0} → Machine J C E → List (Event C E) → List J → Result (List J) Refusal
after m [] jobs = Ok jobs
after m (e ∷ es) jobs = and_then (after m es) (happens m jobs e.job e.act)

-- the index of that event
abbrev pub happened : {J : Type 0} → (List J → ℕ) → Result (List J) Refusal → ℕ
happened more (Ok jobs) = suc (more jobs)
happened more (Err why) = 0

abbrev pub count_happened : {J C E : Type 0} → Machine J C E → List (Event C E) → List J → ℕ
count_happened m [] jobs = 0
count_happened m (e ∷ es) jobs = happened (count_happened m es) (happens m jobs e.job e.act)

-- a lone run: each name may be free at any time
abbrev pub alone : {J C E : Type 0} → Machine J C E → Act C E → J → Result J Refusal
alone m (Begin e test values) j = Err NotEnabled
alone m (Go choice) j = m.go (λ _. true) choice j
alone m Abort j = m.abort j

abbrev pub lone_run : {J C E : Type 0} → Machine J C E → List (Act C E) → J → Result J Refusal
lone_run m [] j = Ok j
lone_run m (a ∷ acts) j = and_then (lone_run m acts) (alone m a j)

-- Conditions on the parts, for single steps and not for runs.
pub record IsMachine {J C E : Type 0} (m : Machine J C E) : Type 0 where
  pub begin_number : (e : E) (test : Bool) (values : List (Option (List ℕ))) (k : ℕ) (j : J)
      → m.begin e test values k ≡ Ok j → number m j ≡ k
  pub begin_holds : (e : E) (test : Bool) (values : List (Option (List ℕ))) (k : ℕ) (j : J)
      → m.begin e test values k ≡ Ok j → (n : LockName) → Holds (m.view j) n → ⊥
  pub go_number : (free : LockName → Bool) (c : C) (j i : J) → m.go free c j ≡ Ok i → number m i ≡ number m j
  -- a step that is enabled stays enabled if more names are free, with the same result
  pub go_more : (free more : LockName → Bool) (c : C) (j i : J) → ((n : LockName) → free n ≡ true → more n ≡ true)
      → m.go free c j ≡ Ok i → m.go more c j ≡ Ok i
  -- a name that a job holds after a step was held before, or it was free
  pub go_holds : (free : LockName → Bool) (c : C) (j i : J) → m.go free c j ≡ Ok i
      → (n : LockName) → Holds (m.view i) n → Holds (m.view j) n ⊎ (free n ≡ true)
  pub abort_number : (j i : J) → m.abort j ≡ Ok i → number m i ≡ number m j
  pub abort_holds : (j i : J) → m.abort j ≡ Ok i → (n : LockName) → Holds (m.view i) n → Holds (m.view j) n

-- the acts of one job, in order
abbrev pub acts_of : {C E : Type 0} → ℕ → List (Event C E) → List (Act C E)
acts_of k [] = []
acts_of k (e ∷ es) = if e.job == k then e.act ∷ acts_of k es else acts_of k es

-- A lone run from its begin, of a job with a given number.
pub record IsLone {J C E : Type 0} (m : Machine J C E) (k : ℕ) (begins : Act C E) (acts : List (Act C E)) (j : J)
    : Type 0 where
  pub entry : E
  pub test : Bool
  pub values : List (Option (List ℕ))
  pub first : J
  pub begins_so : begins ≡ Begin entry test values
  pub is_first : m.begin entry test values k ≡ Ok first
  pub runs : lone_run m acts first ≡ Ok j

-- A job in a run of many is the result of its own acts.
pub record IsAlone {J C E : Type 0} (m : Machine J C E) (events : List (Event C E)) (j : J) : Type 0 where
  pub begins : Act C E
  pub acts : List (Act C E)
  pub own : acts_of (number m j) events ≡ begins ∷ acts
  pub lone : IsLone m (number m j) begins acts j
