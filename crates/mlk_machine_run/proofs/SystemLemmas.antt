-- One job of many.
use Rattle.std.proofs.Common.{◌≡◌, ◌∙◌, ◌<◌, ◌==◌, ℕ, zero, suc, Bool, true, false, List, [], ◌∷◌, ◌++◌, length, map, get_or, Option, Some, None, Result, Ok, Err, refl, sym, ap, subst, arith, inl, inr}
use Rattle.std.specs.Prelude.{OnOk, OnErr, IfErr, IfSome, not, ◌&&◌, ◌||◌, slice_set, position, option_map, if◌then◌else◌}
use Rattle.std.specs.List.{list_any, list_all}
use Rattle.std.proofs.lemmas.Bool.{cases_Bool}
use Rattle.mlk_text.specs.declared.failure.Failure.{Failure}
use Rattle.mlk_text.specs.declared.failure.Failure.TheVariants.{OutOfMemory, Refused}
use Rattle.mlk_text.specs.Failures.{Answers, FailsAs}
use Rattle.mlk_names.specs.declared.lock_name.LockName.{LockName}
use Rattle.mlk_machine_locks.specs.declared.refusal.Refusal.{Refusal}
use Rattle.mlk_machine_locks.specs.declared.refusal.Refusal.TheVariants.{UnknownJob, NotEnabled}
use Rattle.mlk_machine_locks.specs.Counts.{excludes}
use Rattle.mlk_machine_locks.specs.Waiting.{is_free_among, is_numbered}
use Rattle.mlk_machine_locks.specs.Systems.{Machine, number, and_then, changed, joined}
use Rattle.mlk_program.proofs.NameTables.{position-cons}
use Rattle.mlk_machine_jobs.specs.declared.job.Job.{Job as JobIn}
use Rattle.mlk_machine_jobs.specs.Tasks.{Job}
use Rattle.mlk_machine_jobs.specs.Runs.{seen}
use Rattle.mlk_machine_jobs.specs.JobViews.{job_of}
use Rattle.mlk_machine_jobs.specs.Sound.{Sound}
use Rattle.mlk_machine_run.specs.Frames.{claimed_in}
use Rattle.mlk_machine_run.specs.Jobs.{AreSound, seen_in}

pub found_within : (js : List JobIn) (o : Option ℕ) (i : ℕ) → o ≡ Some i → IfSome o (λ n. n < length js) → i < length js
found_within js o i e h = subst (λ (x : Option ℕ). IfSome x (λ n. n < length js)) e h

pub sound_at : (js : List JobIn) (i : ℕ) (j : JobIn) → i < length js → j ≡ get_or js i j → AreSound js → Sound j
sound_at [] i j l e h = absurd (omega arith)
sound_at (x ∷ js) zero j l e h = subst Sound (sym e) h.0
sound_at (x ∷ js) (suc i) j l e h = sound_at js i j (omega arith) e h.1

pub sound_set : (js : List JobIn) (i : ℕ) (j : JobIn) → AreSound js → Sound j → AreSound (slice_set js i j)
sound_set [] i j h k = h
sound_set (x ∷ js) zero j h k = (k, h.1)
sound_set (x ∷ js) (suc i) j h k = (h.0, sound_set js i j h.1 k)

any_keeps : (js : List JobIn) (k : ℕ) (n : LockName)
    → list_any (λ j. not ((seen (job_of j)).number == k) && excludes (seen (job_of j)).held n) js
    ≡ list_any (λ j. not ((seen j).number == k) && excludes (seen j).held n) (map job_of js)
any_keeps [] k n = refl
any_keeps (j ∷ js) k n =
    ap (λ (b : Bool). (not ((seen (job_of j)).number == k) && excludes (seen (job_of j)).held n) || b) (any_keeps js k n)

pub free_among : (js : List JobIn) (k : ℕ)
    → is_free_among (λ j. seen (job_of j)) js k ≡ is_free_among seen (map job_of js) k
free_among js k = λ i n. not (any_keeps js k n i)

pub job_at : (js : List JobIn) (i : ℕ) (j : JobIn) → j ≡ get_or js i j → job_of j ≡ get_or (map job_of js) i (job_of j)
job_at [] i j e = refl
job_at (x ∷ js) zero j e = ap job_of e
job_at (x ∷ js) (suc i) j e = job_at js i j e

pub jobs_set : (js : List JobIn) (i : ℕ) (j : JobIn) → slice_set (map job_of js) i (job_of j) ≡ map job_of (slice_set js i j)
jobs_set [] i j = refl
jobs_set (x ∷ js) zero j = refl
jobs_set (x ∷ js) (suc i) j = ap (λ (z : List Job). job_of x ∷ z) (jobs_set js i j)

pub first_not : {A : Type 0} (o : Option ℕ) → o ≡ Some 0 → o ≡ None → A
first_not None h k = absurd (cc)
first_not (Some n) h k = absurd (cc)

none_later : (o : Option ℕ) → option_map suc o ≡ None → o ≡ None
none_later None h = refl
none_later (Some n) h = absurd (cc)

some_later : (o : Option ℕ) (i : ℕ) → option_map suc o ≡ Some i → (n : ℕ) × (o ≡ Some n) × (i ≡ suc n)
some_later None i h = absurd (cc)
some_later (Some n) i h = let s : Some (suc n) ≡ Some i = h in (n, refl, cc)

module _ {J C E : Type 0} (m : Machine J C E) (f : J → Result J Refusal) (k : ℕ) where
  abbrev is_it : J → Bool
  is_it j = number m j == k

  later_set : (x : J) (js : List J) (n : ℕ) (r : Result J Refusal)
      → and_then (λ is. Ok (x ∷ is)) (and_then (λ y. Ok (slice_set js n y)) r) ≡ and_then (λ y. Ok (x ∷ slice_set js n y)) r
  later_set x js n (Ok y) = refl
  later_set x js n (Err why) = refl

  pub changed_none : (js : List J) → position is_it js ≡ None → changed m f k js ≡ Err UnknownJob
  changed_none [] h = refl
  changed_none (x ∷ js) h = elim (cases_Bool (is_it x)) [
    | inl t ↦ first_not (position is_it (x ∷ js)) (position-cons is_it x js ∙ rw t refl) h
    | inr t ↦
        let s : option_map suc (position is_it js) ≡ None = sym (position-cons is_it x js ∙ rw t refl) ∙ h in
        rw t (ap (and_then (λ is. Ok (x ∷ is))) (changed_none js (none_later (position is_it js) s)))
  ]

  pub changed_at : (js : List J) (i : ℕ) (j : J) → position is_it js ≡ Some i → j ≡ get_or js i j
      → changed m f k js ≡ and_then (λ y. Ok (slice_set js i y)) (f j)
  changed_at [] i j h e = absurd (cc)
  changed_at (x ∷ js) i j h e = elim (cases_Bool (is_it x)) [
    | inl t ↦
        let s : Some 0 ≡ Some i = sym (position-cons is_it x js ∙ rw t refl) ∙ h in
        let z : i ≡ 0 = cc in
        let d : j ≡ x = e ∙ ap (λ n. get_or (x ∷ js) n j) z in
        rw (t, z, d) refl
    | inr t ↦
        let s : option_map suc (position is_it js) ≡ Some i = sym (position-cons is_it x js ∙ rw t refl) ∙ h in
        let p = some_later (position is_it js) i s in
        let d : j ≡ get_or js p.0 j = e ∙ ap (λ n. get_or (x ∷ js) n j) p.2 in
        rw t (
        ap (and_then (λ is. Ok (x ∷ is))) (changed_at js p.0 j p.1 d)
        ∙ later_set x js p.0 (f j)
        ∙ ap (λ n. and_then (λ y. Ok (slice_set (x ∷ js) n y)) (f j)) (sym p.2)
        )
  ]

-- a result for one job is one for all jobs
pub answers_all : {A : Type 0} (g : Job → List Job) (result : Result A (Failure Refusal)) (j : Job) (x : Result Job Refusal)
    → Answers (λ _. j) result x → Answers (λ _. g j) result (and_then (λ y. Ok (g y)) x)
answers_all g (Ok a) j x h = ap (and_then (λ y. Ok (g y))) h
answers_all g (Err OutOfMemory) j x h = h
answers_all g (Err (Refused why)) j x h = ap (and_then (λ y. Ok (g y))) h

-- one more job
pub sound_more : (js : List JobIn) (j : JobIn) → AreSound js → Sound j → AreSound (js ++ j ∷ [])
sound_more [] j h k = (k, tt)
sound_more (x ∷ js) j h k = (h.0, sound_more js j h.1 k)

-- what is set for one job is set among all
pub set_same : (js : List JobIn) (i : ℕ) (j : JobIn) → j ≡ get_or js i j → slice_set (map job_of js) i (job_of j) ≡ map job_of js
set_same [] i j e = refl
set_same (x ∷ js) zero j e = ap (λ (z : JobIn). job_of z ∷ map job_of js) e
set_same (x ∷ js) (suc i) j e = ap (λ (z : List Job). job_of x ∷ z) (set_same js i j e)

pub on_err : {A E P Q : Type 0} (r : Result A E) → (P → Q) → OnErr r P → OnErr r Q
on_err (Ok a) f h = h
on_err (Err e) f h = f h

pub all_stay : (js : List JobIn) (i : ℕ) (j k : JobIn) → j ≡ get_or js i j → job_of k ≡ job_of j
    → map job_of (slice_set js i k) ≡ map job_of js
all_stay js i j k e h = sym (jobs_set js i k) ∙ ap (slice_set (map job_of js) i) h ∙ set_same js i j e

pub aborted_so : (r : Result (Unit {0}) Refusal) (x : Result Job Refusal) (j : Job) (g : Job → List Job) → OnOk r (x ≡ Ok j)
    → IfErr r (λ why. x ≡ Err why) → and_then (λ y. Ok (g y)) x ≡ and_then (λ _. Ok (g j)) r
aborted_so (Ok u) x j g h k = ap (and_then (λ y. Ok (g y))) h
aborted_so (Err why) x j g h k = ap (and_then (λ y. Ok (g y))) k

module _ {J C E : Type 0} (m : Machine J C E) (k : ℕ) (js : List J) (b : Result J Refusal) where
  pub join_used : is_numbered m.view js k ≡ true → joined m k js b ≡ Err NotEnabled
  join_used h = rw h refl

  pub join_declared : (d : Bool) → d ≡ true → is_numbered m.view js k ≡ false
      → joined m k js (if d then b else Err NotEnabled) ≡ and_then (λ j. Ok (js ++ j ∷ [])) b
  join_declared d e h = rw (h, e) refl

  pub join_refused : (d : Bool) → d ≡ false → is_numbered m.view js k ≡ false
      → joined m k js (if d then b else Err NotEnabled) ≡ Err NotEnabled
  join_refused d e h = rw (h, e) refl

pub same_at : (js : List JobIn) (i : ℕ) (x y : JobIn) → i < length js → x ≡ get_or js i x → y ≡ get_or js i y → x ≡ y
same_at [] i x y l e d = absurd (omega arith)
same_at (j ∷ js) zero x y l e d = e ∙ sym d
same_at (j ∷ js) (suc i) x y l e d = same_at js i x y (omega arith) e d

-- the names that a job claims that is read twice, and whether they are free
module _ (js : List JobIn) (i : ℕ) (x y : JobIn) (l : i < length js) (e : x ≡ get_or js i x) (d : y ≡ get_or js i y)
    (names : List LockName) (are : names ≡ claimed_in (job_of x).tasks) where
  pub claimed_at : names ≡ claimed_in (job_of y).tasks
  claimed_at = are ∙ ap (λ (j : JobIn). claimed_in (job_of j).tasks) (same_at js i x y l e d)

  pub claimed_free : (k : ℕ) (b : Bool) → b ≡ list_all (is_free_among seen_in js k) names
      → list_all (is_free_among seen (map job_of js) k) (claimed_in (job_of y).tasks) ≡ b
  claimed_free k b h =
      ap (list_all (is_free_among seen (map job_of js) k)) (sym claimed_at)
      ∙ ap (λ (f : LockName → Bool). list_all f names) (sym (free_among js k))
      ∙ sym h

pub fails_then : {X Y : Type 0} (f : X → Result Y Refusal) (why : Failure Refusal) (x : Result X Refusal) → FailsAs why x
    → FailsAs why (and_then f x)
fails_then f OutOfMemory x h = tt
fails_then f (Refused e) x h = ap (and_then f) h
