-- The first job of a number, by its index.
use Rattle.std.proofs.Common.{◌≡◌, ◌∙◌, ◌<◌, ◌==◌, ◌||◌, subst, IfSome, length, ℕ, suc, Bool, List, [], ◌∷◌, map, get_or, Option, Some, None, Result, Ok, Err, refl, sym, ap, inl, inr, arith}
use Rattle.std.specs.Prelude.{slice_set, position, option_map}
use Rattle.std.proofs.lemmas.Bool.{cases_Bool}
use Rattle.mlk_machine_locks.specs.declared.refusal.Refusal.TheVariants.{UnknownJob, NotEnabled}
use Rattle.mlk_syntax.specs.Trees.{RoutineTree}
use Rattle.mlk_program.proofs.NameTables.{position-cons}
use Rattle.mlk_machine_jobs.specs.declared.job.Job.{Job as JobIn}
use Rattle.mlk_machine_jobs.specs.Tasks.{Job}
use Rattle.mlk_machine_jobs.specs.JobViews.{job_of}
use Rattle.mlk_machine_jobs.specs.Seen.{State, Ready, Claims, Releases, AsksChoice, Stuck, Silent, Ended, Stopped, state, silent_step, settled_after, settled, settled_in, most_silent_steps, behind}
use Rattle.mlk_machine_jobs.specs.declared.choice.Choice.TheVariants as choice
use Rattle.mlk_machine_run.specs.Jobs.{IsPlaceOf}
use Rattle.mlk_machine_run.proofs.SystemLemmas.{job_at, jobs_set, first_not}
use Rattle.mlk_machine.specs.Numbers.{numbers_of, AreNumbers}
use Rattle.std.specs.List.{list_any}
use Rattle.mlk_machine_locks.specs.Waiting.{is_numbered}
use Rattle.mlk_machine_locks.specs.declared.refusal.Refusal.{Refusal}
use Rattle.std.specs.Prelude.{◌++◌, OnErr, IsOk, IfOk, if◌then◌else◌, zero, true, false}
use Rattle.std.proofs.lemmas.List.{map-append}
use Rattle.mlk_text.specs.declared.failure.Failure.{Failure}
use Rattle.mlk_text.specs.Failures.{Answers}
use Rattle.mlk_program.specs.declared.entry.EntryId.{EntryId}
use Rattle.mlk_machine_jobs.specs.declared.choice.Choice.{Choice}
use Rattle.mlk_machine_jobs.specs.Runs.{machine}
use Rattle.mlk_machine_jobs.proofs.MachineLemmas.{is_machine}
use Rattle.mlk_machine_locks.specs.Systems.{Machine, number, and_then, changed, joined, happens, Begin, Go, Abort}
use Rattle.mlk_machine_jobs.specs.Runs.{seen}
use Rattle.mlk_program.proofs.Directories.{position-map}
use Rattle.mlk_machine.specs.Jobs.{job_numbered}

none_later : (o : Option ℕ) → option_map suc o ≡ None → o ≡ None
none_later None h = refl
none_later (Some n) h = absurd (cc)

some_later : (o : Option ℕ) (i : ℕ) → option_map suc o ≡ Some i → (n : ℕ) × (o ≡ Some n) × (i ≡ suc n)
some_later None i h = absurd (cc)
some_later (Some n) i h = let s : Some (suc n) ≡ Some i = h in (n, refl, cc)

module _ (k : ℕ) where
  abbrev is_it : Job → Bool
  is_it j = j.number == k

  none_there : (js : List Job) → position is_it js ≡ None → job_numbered k js ≡ None
  none_there [] h = refl
  none_there (x ∷ js) h = elim (cases_Bool (is_it x)) [
    | inl t ↦ first_not (position is_it (x ∷ js)) (position-cons is_it x js ∙ rw t refl) h
    | inr t ↦
        let s : option_map suc (position is_it js) ≡ None = sym (position-cons is_it x js ∙ rw t refl) ∙ h in
        rw t (none_there js (none_later (position is_it js) s))
  ]

  one_there : (js : List Job) (i : ℕ) (j : Job) → position is_it js ≡ Some i → j ≡ get_or js i j
      → job_numbered k js ≡ Some j
  one_there [] i j h e = absurd (cc)
  one_there (x ∷ js) i j h e = elim (cases_Bool (is_it x)) [
    | inl t ↦
        let s : Some 0 ≡ Some i = sym (position-cons is_it x js ∙ rw t refl) ∙ h in
        let z : i ≡ 0 = cc in
        let d : j ≡ x = e ∙ ap (λ n. get_or (x ∷ js) n j) z in
        rw (t, d) refl
    | inr t ↦
        let s : option_map suc (position is_it js) ≡ Some i = sym (position-cons is_it x js ∙ rw t refl) ∙ h in
        let p = some_later (position is_it js) i s in
        let d : j ≡ get_or js p.0 j = e ∙ ap (λ n. get_or (x ∷ js) n j) p.2 in rw t (one_there js p.0 j p.1 d)
  ]

  module _ (routines : List RoutineTree) where
    none_settled : (js : List Job) → position is_it js ≡ None → settled_in routines k js ≡ Err UnknownJob
    none_settled [] h = refl
    none_settled (x ∷ js) h = elim (cases_Bool (is_it x)) [
      | inl t ↦ first_not (position is_it (x ∷ js)) (position-cons is_it x js ∙ rw t refl) h
      | inr t ↦
          let s : option_map suc (position is_it js) ≡ None = sym (position-cons is_it x js ∙ rw t refl) ∙ h in
          rw t (ap (behind x) (none_settled js (none_later (position is_it js) s)))
    ]

    one_settled : (js : List Job) (i : ℕ) (j h : Job) (n : ℕ) → position is_it js ≡ Some i → j ≡ get_or js i j
        → settled routines most_silent_steps j ≡ (h, n) → settled_in routines k js ≡ Ok (slice_set js i h, n)
    one_settled [] i j g n h e r = absurd (cc)
    one_settled (x ∷ js) i j g n h e r = elim (cases_Bool (is_it x)) [
      | inl t ↦
          let s : Some 0 ≡ Some i = sym (position-cons is_it x js ∙ rw t refl) ∙ h in
          let z : i ≡ 0 = cc in
          let d : j ≡ x = e ∙ ap (λ n. get_or (x ∷ js) n j) z in
          let r' : settled routines most_silent_steps x ≡ (g, n) = ap (settled routines most_silent_steps) (sym d) ∙ r in
          rw (t, z, r') refl
      | inr t ↦
          let s : option_map suc (position is_it js) ≡ Some i = sym (position-cons is_it x js ∙ rw t refl) ∙ h in
          let p = some_later (position is_it js) i s in
          let d : j ≡ get_or js p.0 j = e ∙ ap (λ n. get_or (x ∷ js) n j) p.2 in
          rw (t, p.2) (ap (behind x) (one_settled js p.0 j g n p.1 d r))
    ]

-- The same of the code's jobs.
module _ (k : ℕ) (js : List JobIn) (o : Option ℕ) (is : IsPlaceOf k js o) where
  pub no_job : o ≡ None → None ≡ job_numbered k (map job_of js)
  no_job h = sym (none_there k (map job_of js) (sym is.first ∙ h))

  pub the_job : (i : ℕ) (j : JobIn) → o ≡ Some i → j ≡ get_or js i j → Some (job_of j) ≡ job_numbered k (map job_of js)
  the_job i j h e = sym (one_there k (map job_of js) i (job_of j) (sym is.first ∙ h) (job_at js i j e))

  pub no_job_settled : (routines : List RoutineTree) → o ≡ None
      → settled_in routines k (map job_of js) ≡ Err UnknownJob
  no_job_settled routines h = none_settled k routines (map job_of js) (sym is.first ∙ h)

  pub job_settled : (routines : List RoutineTree) (i : ℕ) (j h : JobIn) (n : ℕ) → o ≡ Some i → j ≡ get_or js i j
      → settled routines most_silent_steps (job_of j) ≡ (job_of h, n)
      → settled_in routines k (map job_of js) ≡ Ok (map job_of (slice_set js i h), n)
  job_settled routines i j h n p e r =
      one_settled k routines (map job_of js) i (job_of j) (job_of h) n (sym is.first ∙ p) (job_at js i j e) r
      ∙ ap (λ (is : List Job). Ok (is, n)) (jobs_set js i h)

-- The index of a number among numbers.
turned : (a b : ℕ) → (a == b) ≡ (b == a)
turned a b = grind arith

place_among : (js : List Job) (k : ℕ) → position (λ n. k == n) (numbers_of js) ≡ position (λ j. j.number == k) js
place_among js k = position-map (λ n. k == n) (λ (j : Job). j.number) js ∙ ap (λ (f : Job → Bool). position f js) (λ i j. turned k j.number i)

len_numbers : (js : List JobIn) → length (numbers_of (map job_of js)) ≡ length js
len_numbers [] = refl
len_numbers (j ∷ js) = ap (λ n. suc n) (len_numbers js)

pub is_place : (ns : List ℕ) (k : ℕ) (o : Option ℕ) → o ≡ position (λ n. k == n) ns → IfSome o (λ i. i < length ns)
    → (js : List JobIn) → AreNumbers ns js → IsPlaceOf k js o
is_place ns k o e w js a = record {
  first = e ∙ ap (position (λ n. k == n)) a ∙ place_among (map job_of js) k;
  within = subst (λ n. IfSome o (λ i. i < n)) (ap length a ∙ len_numbers js) w;
}

used_among : (js : List Job) (k : ℕ) → list_any (λ n. k == n) (numbers_of js) ≡ is_numbered seen js k
used_among [] k = refl
used_among (j ∷ js) k =
    ap (λ b. b || list_any (λ n. k == n) (numbers_of js)) (turned k j.number)
    ∙ ap (λ b. (j.number == k) || b) (used_among js k)

pub is_used : (ns : List ℕ) (k : ℕ) (b : Bool) → b ≡ list_any (λ n. k == n) ns → (js : List JobIn) → AreNumbers ns js
    → b ≡ is_numbered seen (map job_of js) k
is_used ns k b e js a = e ∙ ap (list_any (λ n. k == n)) a ∙ used_among (map job_of js) k

-- The effect of an event of one job on the numbers.
module _ {J C E : Type 0} (m : Machine J C E) where
  abbrev all_numbers : List J → List ℕ
  all_numbers js = map (number m) js

  changed_numbers : (f : J → Result J Refusal) → ((j i : J) → f j ≡ Ok i → number m i ≡ number m j) → (k : ℕ) (js is : List J)
      → changed m f k js ≡ Ok is → all_numbers is ≡ all_numbers js
  changed_numbers f keeps k [] is h = cc
  changed_numbers f keeps k (x ∷ js) is h = elim (cases_Bool (number m x == k)) [
    | inl t ↦ of_first (f x) refl (rw t at h)
    | inr t ↦ of_later (changed m f k js) (changed_numbers f keeps k js) refl (rw t at h)
  ]
    where
      of_first : (r : Result J Refusal) → f x ≡ r → and_then (λ i. Ok (i ∷ js)) r ≡ Ok is → all_numbers is ≡ all_numbers (x ∷ js)
      of_first (Ok i) e h = let d : i ∷ js ≡ is = cc in ap all_numbers (sym d) ∙ ap (λ n. n ∷ all_numbers js) (keeps x i e)
      of_first (Err why) e h = cc

      of_later : (r : Result (List J) Refusal) → ((ys : List J) → changed m f k js ≡ Ok ys → all_numbers ys ≡ all_numbers js)
          → changed m f k js ≡ r → and_then (λ ys. Ok (x ∷ ys)) r ≡ Ok is → all_numbers is ≡ all_numbers (x ∷ js)
      of_later (Ok ys) rest e h = let d : x ∷ ys ≡ is = cc in ap all_numbers (sym d) ∙ ap (λ ns. number m x ∷ ns) (rest ys e)
      of_later (Err why) rest e h = cc

  joined_numbers : (k : ℕ) (js is : List J) (r : Result J Refusal) → ((j : J) → r ≡ Ok j → number m j ≡ k)
      → joined m k js r ≡ Ok is → all_numbers is ≡ all_numbers js ++ k ∷ []
  joined_numbers k js is r begins h = elim (cases_Bool (is_numbered m.view js k)) [
    | inl t ↦ let z : Err NotEnabled ≡ Ok is = rw t at h in cc
    | inr t ↦ of_new r begins (rw t at h)
  ]
    where
      of_new : (r : Result J Refusal) → ((j : J) → r ≡ Ok j → number m j ≡ k) → and_then (λ j. Ok (js ++ j ∷ [])) r ≡ Ok is
          → all_numbers is ≡ all_numbers js ++ k ∷ []
      of_new (Ok j) begins e =
          let d : js ++ j ∷ [] ≡ is = cc in
          ap all_numbers (sym d) ∙ map-append (number m) js (j ∷ []) ∙ ap (λ n. all_numbers js ++ n ∷ []) (begins j refl)
      of_new (Err why) begins e = cc

module _ (routines : List RoutineTree) (declared : EntryId → Bool) (js is : List Job) (k : ℕ) where
  pub went_numbers : {A : Type 0} (c : Choice) (r : Result A (Failure Refusal))
      → Answers (λ _. is) r (happens (machine routines declared) js k (Go c)) → OnErr r (is ≡ js) → numbers_of is ≡ numbers_of js
  went_numbers c (Ok u) h s =
      changed_numbers (machine routines declared) _ (λ j i e. (is_machine routines declared).go_number _ c j i e) k js is h
  went_numbers c (Err e) h s = ap numbers_of s

  pub stopped_numbers : happens (machine routines declared) js k Abort ≡ Ok is → numbers_of is ≡ numbers_of js
  stopped_numbers h = changed_numbers (machine routines declared) _ (λ j i e. (is_machine routines declared).abort_number j i e) k js is h

  pub begun_numbers : (entry : EntryId) (test : Bool) (values : List (Option (List ℕ)))
      → happens (machine routines declared) js k (Begin entry test values) ≡ Ok is → numbers_of is ≡ numbers_of js ++ k ∷ []
  begun_numbers entry test values h =
      joined_numbers (machine routines declared) k js is _
      (λ j e. (is_machine routines declared).begin_number entry test values k j e) h

-- a job keeps its number while it runs by itself
module _ (routines : List RoutineTree) where
  silent_number : (j i : Job) (s : State) → silent_step routines j s ≡ Ok i → i.number ≡ j.number
  silent_number j i Silent e = (is_machine routines (λ e. false)).go_number (λ n. true) choice.None j i e
  silent_number j i (Ready touch) e = cc
  silent_number j i (Claims names timed) e = cc
  silent_number j i Releases e = cc
  silent_number j i AsksChoice e = cc
  silent_number j i Stuck e = cc
  silent_number j i Ended e = cc
  silent_number j i Stopped e = cc

  settled_number : (most : ℕ) (j : Job) → (settled routines most j).0.number ≡ j.number
  unfolding settled
  settled_number zero j = refl
  settled_number (suc most) j = on (silent_step routines j (state routines j)) refl (λ i. settled_number most i)
    where
      on : (s : Result Job Refusal) → silent_step routines j (state routines j) ≡ s
          → ((i : Job) → (settled routines most i).0.number ≡ i.number) → (settled_after (λ i. settled routines most i) j s).0.number ≡ j.number
      on (Ok i) e more = more i ∙ silent_number j i (state routines j) e
      on (Err why) e more = refl

  set_number : (js : List JobIn) (i : ℕ) (x h : JobIn) → x ≡ get_or js i x → h.number ≡ x.number
      → numbers_of (map job_of (slice_set js i h)) ≡ numbers_of (map job_of js)
  set_number [] i x h e n = refl
  set_number (y ∷ js) zero x h e n = ap (λ k. k ∷ numbers_of (map job_of js)) (n ∙ ap (λ (z : JobIn). z.number) e)
  set_number (y ∷ js) (suc i) x h e n = ap (λ ks. y.number ∷ ks) (set_number js i x h e n)

  pub settled_numbers : (js : List JobIn) (i : ℕ) (x j h : JobIn) (n : ℕ) → x ≡ get_or js i x → job_of j ≡ job_of x
      → settled routines most_silent_steps (job_of j) ≡ (job_of h, n)
      → numbers_of (map job_of (slice_set js i h)) ≡ numbers_of (map job_of js)
  settled_numbers js i x j h n e d s =
      set_number js i x h e
      (sym (ap (λ (r : Job × ℕ). r.0.number) s) ∙ settled_number most_silent_steps (job_of j) ∙ ap (λ (z : Job). z.number) d)

pub where_ok : {A E : Type 0} {P : Type 0} (r : Result A E) → IsOk r → IfOk r (λ _. P) → P
where_ok (Ok a) o h = h
where_ok (Err e) o h = cc

-- the number of a job that has begun comes after the others
pub added_number : (routines : List RoutineTree) (declared : EntryId → Bool) (js is : List JobIn) (k : ℕ) (entry : EntryId)
    (test : Bool) (values : List (Option (List ℕ))) (old keys new : List ℕ) → AreNumbers old js → keys ≡ old
    → happens (machine routines declared) (map job_of js) k (Begin entry test values) ≡ Ok (map job_of is)
    → new ≡ (if list_any (λ n. k == n) keys then keys else keys ++ k ∷ []) → AreNumbers new is
added_number routines declared js is k entry test values old keys new a e h d =
    d ∙ unused (list_any (λ n. k == n) keys) refl ∙ sym (begun_numbers routines declared (map job_of js) (map job_of is) k entry test values h)
  where
    used : list_any (λ n. k == n) keys ≡ is_numbered seen (map job_of js) k
    used = ap (list_any (λ n. k == n)) (e ∙ a) ∙ used_among (map job_of js) k

    unused : (b : Bool) → list_any (λ n. k == n) keys ≡ b → (if b then keys else keys ++ k ∷ []) ≡ numbers_of (map job_of js) ++ k ∷ []
    unused true t =
        let u : is_numbered seen (map job_of js) k ≡ true = sym used ∙ t in
        let z : Err NotEnabled ≡ Ok (map job_of is) = rw u at h in cc
    unused false t = ap (λ ns. ns ++ k ∷ []) (e ∙ a)
