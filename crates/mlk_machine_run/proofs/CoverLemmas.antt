-- A lock table finds jobs by what they hold after a step, too: what a job holds it held before, or it claimed it.
use Rattle.std.proofs.Common.{◌≡◌, ◌∙◌, ℕ, zero, suc, Bool, true, false, List, [], ◌∷◌, ◌++◌, Option, Some, Result, Ok, Err, refl, sym, ap, subst, inl, inr}
use Rattle.std.specs.Prelude.{◌⊎◌, ◌&&◌, if◌then◌else◌, OnOk, OnErr, slice_set}
use Rattle.std.specs.List.{list_any, list_all, slice_get}
use Rattle.std.proofs.lemmas.Bool.{and_parts, false≢true}
use Rattle.mlk_text.specs.declared.failure.Failure.{Failure}
use Rattle.mlk_text.specs.Failures.{Answers}
use Rattle.mlk_names.specs.Lists.{Among}
use Rattle.mlk_names.specs.declared.lock_name.LockName.{LockName}
use Rattle.mlk_machine_locks.specs.declared.refusal.Refusal.{Refusal}
use Rattle.mlk_machine_locks.specs.declared.refusal.Refusal.TheVariants.{NotEnabled}
use Rattle.mlk_machine_locks.specs.declared.table.LockTable.{LockTable}
use Rattle.mlk_machine_locks.specs.NameTests.{same_name}
use Rattle.mlk_machine_locks.specs.Tables.{IsFound, ListsAll, Covers}
use Rattle.mlk_machine_locks.specs.Waiting.{Holds}
use Rattle.mlk_machine_locks.proofs.ListLemmas.{any_from, any_to}
use Rattle.mlk_machine_locks.proofs.NameLemmas.{same_is, same_self}
use Rattle.mlk_syntax.specs.Trees.{RoutineTree}
use Rattle.mlk_program.specs.declared.entry.EntryId.{EntryId}
use Rattle.mlk_machine_jobs.specs.declared.choice.Choice.{Choice}
use Rattle.mlk_machine_jobs.specs.declared.job.Job.{Job as JobIn}
use Rattle.mlk_machine_jobs.specs.JobViews.{job_of}
use Rattle.mlk_machine_jobs.specs.Runs.{begun, go, aborted, seen, is_job_number}
use Rattle.mlk_machine_jobs.specs.Tasks.{Job}
use Rattle.mlk_machine_jobs.proofs.MachineLemmas.{is_machine}
use Rattle.mlk_machine_run.specs.Frames.{claimed_in}
use Rattle.mlk_machine_run.specs.Jobs.{seen_in, StayCovered, TakesNone, TakesClaimed}

-- the elements of a list in which one is set, or to which one is added
set_at : {X : Type 0} (xs : List X) (i : ℕ) (y : X) (k : ℕ) (x : X) → slice_get (slice_set xs i y) k ≡ Some x
    → ((k ≡ i) × (x ≡ y)) ⊎ (slice_get xs k ≡ Some x)
set_at [] i y k x h = inr h
set_at (z ∷ xs) zero y zero x h = inl (refl, cc)
set_at (z ∷ xs) zero y (suc k) x h = inr h
set_at (z ∷ xs) (suc i) y zero x h = inr h
set_at (z ∷ xs) (suc i) y (suc k) x h = elim (set_at xs i y k x h) [
  | inl p ↦ inl (ap suc p.0, p.1)
  | inr g ↦ inr g
]

added_at : {X : Type 0} (xs : List X) (y : X) (k : ℕ) (x : X) → slice_get (xs ++ y ∷ []) k ≡ Some x
    → (x ≡ y) ⊎ (slice_get xs k ≡ Some x)
added_at [] y zero x h = inl cc
added_at [] y (suc k) x h = absurd (cc)
added_at (z ∷ xs) y zero x h = inr h
added_at (z ∷ xs) y (suc k) x h = added_at xs y k x h

-- A step does no more if only the names that it claims are free, and some others are.
module _ (some : LockName → Bool) (all : List LockName) where
  abbrev within : LockName → Bool
  within n = list_any (same_name n) all && some n

  all_within : (names : List LockName) → ((n : LockName) → Among n names → Among n all)
      → list_all within names ≡ list_all some names
  all_within [] h = refl
  all_within (n ∷ names) h =
      let e : list_any (same_name n) all ≡ true = any_to (same_name n) all n (h n (inl refl)) (same_self n) in
      ap (λ b. (b && some n) && list_all within names) e
      ∙ ap (λ b. some n && b) (all_within names (λ m a. h m (inr a)))

  is_among : (n : LockName) → within n ≡ true → Among n all
  is_among n h =
      let found = any_from (same_name n) all (and_parts (list_any (same_name n) all) (some n) h).0 in
      subst (λ m. Among m all) (sym (same_is n found.0 found.2)) found.1

pub took_claimed : (routines : List RoutineTree) (some : LockName → Bool) (c : Choice) (b : Bool) (old new : Job)
    → list_all some (claimed_in old.tasks) ≡ b
    → ((free : LockName → Bool) → list_all free (claimed_in old.tasks) ≡ b → go routines free c old ≡ Ok new)
    → TakesClaimed old new
took_claimed routines some c b old new e goes n p =
    let names = claimed_in old.tasks in
    let free : LockName → Bool = within some names in
    elim ((is_machine routines (λ _. false)).go_holds free c old new (goes free (all_within some names names (λ m a. a) ∙ e)) n p) [
      | inl q ↦ inl q
      | inr q ↦ inr (is_among some names n q)
    ]

pub takes_claimed : {A : Type 0} (routines : List RoutineTree) (some : LockName → Bool) (c : Choice) (b : Bool)
    (r : Result A (Failure Refusal)) (old new : Job) → list_all some (claimed_in old.tasks) ≡ b
    → ((free : LockName → Bool) → list_all free (claimed_in old.tasks) ≡ b → Answers (λ _. new) r (go routines free c old))
    → OnErr r (new ≡ old) → TakesClaimed old new
takes_claimed routines some c b (Ok u) old new e goes same = took_claimed routines some c b old new e goes
takes_claimed routines some c b (Err why) old new e goes same = λ n p. inl (subst (λ j. Holds (seen j) n) same p)

-- if nothing is claimed
pub takes_none : (old new : Job) → claimed_in old.tasks ≡ [] → TakesClaimed old new → TakesNone old new
takes_none old new e takes n p = elim (takes n p) [
  | inl q ↦ q
  | inr a ↦ absurd (subst (λ names. Among n names) e a)
]

pub stays_so : (old new : Job) → new ≡ old → TakesNone old new
stays_so old new e n p = subst (λ j. Holds (seen j) n) e p

pub aborted_takes : {A : Type 0} (r : Result A Refusal) (old new : JobIn)
    → OnOk r (aborted (job_of old) (job_of old).tasks ≡ Ok (job_of new)) → OnErr r (new ≡ old)
    → TakesNone (job_of old) (job_of new)
aborted_takes (Ok u) old new ok same = (is_machine [] (λ _. false)).abort_holds (job_of old) (job_of new) ok
aborted_takes (Err why) old new ok same = stays_so (job_of old) (job_of new) (ap job_of same)

pub begun_holds : (routines : List RoutineTree) (e : EntryId) (k : ℕ) (test : Bool) (values : List (Option (List ℕ))) (new : JobIn)
    → is_job_number k ≡ true → begun routines e k test values ≡ Ok (job_of new) → (n : LockName) → Holds (seen_in new) n → ⊥
begun_holds routines e k test values new may h =
    (is_machine routines (λ _. true)).begin_holds e test values k (job_of new)
    (ap (λ b. if b then begun routines e k test values else Err NotEnabled) may ∙ h)

-- One of all jobs makes a step.
pub set_covered : (js : List JobIn) (i : ℕ) (old new : JobIn) → slice_get js i ≡ Some old
    → TakesNone (job_of old) (job_of new) → StayCovered js (slice_set js i new)
set_covered js i old new at none t covers k n h = elim (set_at js i new k h.0 h.1) [
  | inl p ↦ covers k n (
    old,
    subst (λ m. slice_get js m ≡ Some old) (sym p.0) at,
    none n (subst (λ (j : JobIn). Holds (seen_in j) n) p.1 h.2),
  )
  | inr g ↦ covers k n (h.0, g, h.2)
]

pub added_covered : (js : List JobIn) (new : JobIn) → ((n : LockName) → Holds (seen_in new) n → ⊥)
    → StayCovered js (js ++ new ∷ [])
added_covered js new none t covers k n h = elim (added_at js new k h.0 h.1) [
  | inl e ↦ absurd (none n (subst (λ (j : JobIn). Holds (seen_in j) n) e h.2))
  | inr g ↦ covers k n (h.0, g, h.2)
]

module _ (t u : LockTable) (lists : ListsAll t u) (js : List JobIn) (covers : Covers seen_in t js) where
  pub more_covered : Covers seen_in u js
  more_covered k n h key m = lists key k (covers k n h key m)

  pub claim_covered : (i : ℕ) (old new : JobIn) → slice_get js i ≡ Some old
      → ((n : LockName) → Among n (claimed_in (job_of old).tasks) → IsFound u i n)
      → TakesClaimed (job_of old) (job_of new) → Covers seen_in u (slice_set js i new)
  claim_covered i old new at found takes k n h = elim (set_at js i new k h.0 h.1) [
    | inl p ↦ elim (takes n (subst (λ (j : JobIn). Holds (seen_in j) n) p.1 h.2)) [
      | inl q ↦ more_covered k n (old, subst (λ m. slice_get js m ≡ Some old) (sym p.0) at, q)
      | inr a ↦ subst (λ m. IsFound u m n) (sym p.0) (found n a)
    ]
    | inr g ↦ more_covered k n (h.0, g, h.2)
  ]
