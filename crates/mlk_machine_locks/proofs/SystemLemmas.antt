-- Laws of any machine: what jobs hold stays apart, and each job of a run is the result of its own acts.
use Rattle.std.proofs.Common.{◌≡◌, ℕ, Bool, true, false, List, [], ◌∷◌, ◌++◌, refl, sym, ap, ◌∙◌, subst, inl, inr, Option}
use Rattle.std.specs.Prelude.{◌≢◌, ◌⊎◌, ◌==◌, ◌&&◌, not, Result, Ok, Err}
use Rattle.std.specs.List.{list_any}
use Rattle.std.proofs.lemmas.Bool.{cases_Bool, or_parts, and_cases, not-true, not-false, eqb-true, eqb-false, eq-eqb, ne_eqb, true≢false}
use Rattle.mlk_names.specs.Lists.{Among}
use Rattle.mlk_names.specs.declared.lock_name.LockName.{LockName}
use Rattle.mlk_names.specs.LockNames.{Conflict}
use Rattle.mlk_machine_locks.specs.declared.refusal.Refusal.{Refusal}
use Rattle.mlk_machine_locks.specs.declared.refusal.Refusal.TheVariants.{NotEnabled}
use Rattle.mlk_machine_locks.specs.Counts.{excludes}
use Rattle.mlk_machine_locks.specs.Waiting.{Holds}
use Rattle.mlk_machine_locks.specs.Systems.{Machine, IsMachine, Act, Begin, Go, Abort, Event, and_then, number, is_free, is_used, changed, joined, happens, after, alone, lone_run, acts_of, IsAlone}
use Rattle.mlk_machine_locks.specs.Laws.{AreApart, NumbersDiffer, HeldApart, NumbersDistinct, OneRunOfMany}
use Rattle.mlk_machine_locks.proofs.Answered.{done_then}
use Rattle.mlk_machine_locks.proofs.NameLemmas.{excludes_if}

turned : (m n : LockName) → Conflict m n → Conflict n m
turned m n (inl h) = inr h
turned m n (inr h) = inl h

among-append : {X : Type 0} (xs : List X) (y x : X) → Among x (xs ++ y ∷ []) → Among x xs ⊎ (x ≡ y)
among-append [] y x (inl e) = inr e
among-append [] y x (inr a) = absurd a
among-append (z ∷ xs) y x (inl e) = inl (inl e)
among-append (z ∷ xs) y x (inr a) = elim (among-append xs y x a) [
  | inl b ↦ inl (inr b)
  | inr e ↦ inr e
]

among_front : {X : Type 0} (xs : List X) (y x : X) → Among x xs → Among x (xs ++ y ∷ [])
among_front [] y x a = absurd a
among_front (z ∷ xs) y x (inl e) = inl e
among_front (z ∷ xs) y x (inr a) = inr (among_front xs y x a)

among_last : {X : Type 0} (xs : List X) (y : X) → Among y (xs ++ y ∷ [])
among_last [] y = inl refl
among_last (z ∷ xs) y = inr (among_last xs y)

acts_own : {C E : Type 0} (k : ℕ) (e : Event C E) (es : List (Event C E)) → e.job ≡ k → acts_of k (e ∷ es) ≡ e.act ∷ acts_of k es
acts_own k e es h = let t : (e.job == k) ≡ true = eq-eqb e.job k h in rw t refl

acts_other : {C E : Type 0} (k : ℕ) (e : Event C E) (es : List (Event C E)) → e.job ≢ k → acts_of k (e ∷ es) ≡ acts_of k es
acts_other k e es h = let t : (e.job == k) ≡ false = ne_eqb e.job k h in rw t refl

module _ {J C E : Type 0} (m : Machine J C E) (is : IsMachine m) where
  -- each number belongs to one job
  abbrev Distinct : List J → Type 0
  Distinct = NumbersDiffer m.view

  abbrev Unused : ℕ → List J → Type 0
  Unused k jobs = (j : J) → Among j jobs → number m j ≢ k

  unused : (k : ℕ) (jobs : List J) → is_used m jobs k ≡ false → Unused k jobs
  unused k [] h j a = absurd a
  unused k (x ∷ xs) h j (inl e) =
      let o = or_parts (number m x == k) (is_used m xs k) h in
      λ i. eqb-false (number m x) k o.0 (ap (number m) (sym e) ∙ i)
  unused k (x ∷ xs) h j (inr a) = unused k xs (or_parts (number m x == k) (is_used m xs k) h).1 j a

  -- which jobs there are after the one of this number has changed
  record Changed (f : J → Result J Refusal) (k : ℕ) (jobs jobs' : List J) : Type 0 where
    from : (i : J) → Among i jobs' → (Among i jobs × (number m i ≢ k)) ⊎ ((j : J) × Among j jobs × (number m j ≡ k) × (f j ≡ Ok i))
    distinct : Distinct jobs'
    there : (j : J) × Among j jobs' × (number m j ≡ k)
    still : (j : J) → Among j jobs → (i : J) × Among i jobs' × (number m i ≡ number m j)

  abbrev Keeps : (J → Result J Refusal) → Type 0
  Keeps f = (j i : J) → f j ≡ Ok i → number m i ≡ number m j

  here : (f : J → Result J Refusal) (k : ℕ) (x y : J) (xs : List J) → Keeps f → Distinct (x ∷ xs) → number m x ≡ k → f x ≡ Ok y → Changed f k (x ∷ xs) (y ∷ xs)
  here f k x y xs keeps d e h = record {
    from = λ i a. elim a [
      | inl r ↦ inr (x, inl refl, e, h ∙ ap Ok (sym r))
      | inr b ↦ inl (inr b, λ n. d.0 i b (n ∙ sym e))
    ];
    distinct = (λ i a n. d.0 i a (n ∙ keeps x y h), d.1);
    there = (y, inl refl, keeps x y h ∙ e);
    still = λ j a. elim a [
      | inl r ↦ (y, inl refl, keeps x y h ∙ ap (number m) (sym r))
      | inr b ↦ (j, inr b, refl)
    ];
  }

  behind : (f : J → Result J Refusal) (k : ℕ) (x : J) (xs ys : List J) → Keeps f → Distinct (x ∷ xs) → number m x ≢ k → Changed f k xs ys → Changed f k (x ∷ xs) (x ∷ ys)
  behind f k x xs ys keeps d ne c = record {
    from = λ i a. elim a [
      | inl r ↦ inl (inl r, λ n. ne (ap (number m) (sym r) ∙ n))
      | inr b ↦ elim (c.from i b) [
        | inl o ↦ inl (inr o.0, o.1)
        | inr o ↦ inr (o.0, inr o.1, o.2, o.3)
      ]
    ];
    distinct = (
      λ i a n. elim (c.from i a) [
        | inl o ↦ d.0 i o.0 n
        | inr o ↦ d.0 o.0 o.1 (sym (keeps o.0 i o.3) ∙ n)
      ],
      c.distinct,
    );
    there = (c.there.0, inr c.there.1, c.there.2);
    still = λ j a. elim a [
      | inl r ↦ (x, inl refl, ap (number m) (sym r))
      | inr b ↦ let s = c.still j b in (s.0, inr s.1, s.2)
    ];
  }

  change : (f : J → Result J Refusal) (k : ℕ) (jobs jobs' : List J) → Keeps f → Distinct jobs → changed m f k jobs ≡ Ok jobs' → Changed f k jobs jobs'
  change f k [] jobs' keeps d h = cc
  change f k (x ∷ xs) jobs' keeps d h = elim (cases_Bool (number m x == k)) [
    | inl e ↦
        let g : and_then (λ y. Ok (y ∷ xs)) (f x) ≡ Ok jobs' = rw e at h in
        done_then (λ y. Ok (y ∷ xs)) (f x) jobs' g (λ y p q.
        let r : y ∷ xs ≡ jobs' = cc in
        subst (Changed f k (x ∷ xs)) r (here f k x y xs keeps d (eqb-true (number m x) k e) p))
    | inr e ↦
        let g : and_then (λ ys. Ok (x ∷ ys)) (changed m f k xs) ≡ Ok jobs' = rw e at h in
        done_then (λ ys. Ok (x ∷ ys)) (changed m f k xs) jobs' g (λ ys p q.
        let r : x ∷ ys ≡ jobs' = cc in
        subst (Changed f k (x ∷ xs)) r (behind f k x xs ys keeps d (eqb-false (number m x) k e) (change f k xs ys keeps d.1 p)))
  ]

  -- which jobs there are after one more has begun
  record Begun (k : ℕ) (o : Result J Refusal) (jobs jobs' : List J) : Type 0 where
    new : J
    is_new : o ≡ Ok new
    fresh : Unused k jobs
    more : jobs ++ new ∷ [] ≡ jobs'

  begun : (k : ℕ) (o : Result J Refusal) (jobs jobs' : List J) → joined m k jobs o ≡ Ok jobs' → Begun k o jobs jobs'
  begun k o jobs jobs' h = elim (cases_Bool (is_used m jobs k)) [
    | inl u ↦ let g : Err NotEnabled ≡ Ok jobs' = rw u at h in cc
    | inr u ↦
        let g : and_then (λ j. Ok (jobs ++ j ∷ [])) o ≡ Ok jobs' = rw u at h in
        done_then (λ j. Ok (jobs ++ j ∷ [])) o jobs' g (λ j p q.
        let r : jobs ++ j ∷ [] ≡ jobs' = cc in record { new = j; is_new = p; fresh = unused k jobs u; more = r })
  ]

  distinct_more : (jobs : List J) (new : J) → Distinct jobs → Unused (number m new) jobs → Distinct (jobs ++ new ∷ [])
  distinct_more [] new d h = (λ i a. absurd a, tt)
  distinct_more (x ∷ xs) new d h = (
    λ i a n. elim (among-append xs new i a) [
      | inl b ↦ d.0 i b n
      | inr e ↦ h x (inl refl) (sym n ∙ ap (number m) e)
    ],
    distinct_more xs new d.1 (λ j a. h j (inr a)),
  )

  went : (free : LockName → Bool) (c : C) → Keeps (m.go free c)
  went free c j i h = is.go_number free c j i h

  -- What the jobs hold.

  freed : (k : ℕ) (n : LockName) (jobs : List J) → list_any (λ j. not (number m j == k) && excludes (m.view j).held n) jobs ≡ false → (j : J) → Among j jobs → number m j ≢ k → excludes (m.view j).held n ≡ false
  freed k n [] h j a ne = absurd a
  freed k n (x ∷ xs) h j (inl e) ne =
      let o = or_parts (not (number m x == k) && excludes (m.view x).held n) (list_any (λ j. not (number m j == k) && excludes (m.view j).held n) xs) h in
      elim (and_cases (not (number m x == k)) (excludes (m.view x).held n) o.0) [
        | inl p ↦ absurd (ne (ap (number m) e ∙ eqb-true (number m x) k (not-false (number m x == k) p)))
        | inr p ↦ ap (λ y. excludes (m.view y).held n) e ∙ p
      ]
  freed k n (x ∷ xs) h j (inr a) ne =
      freed k n xs (or_parts (not (number m x == k) && excludes (m.view x).held n) (list_any (λ j. not (number m j == k) && excludes (m.view j).held n) xs) h).1 j a ne

  abbrev Apart : J → J → Type 0
  Apart i j = (x y : LockName) → Holds (m.view i) x → Holds (m.view j) y → Conflict x y → ⊥

  -- after a step, what its job holds is apart from the others
  abbrev Spares : (J → Result J Refusal) → ℕ → List J → Type 0
  Spares f k jobs = (j i o : J) → f j ≡ Ok i → Among o jobs → number m o ≢ k → Apart j o → Apart i o

  apart_changed : (f : J → Result J Refusal) (k : ℕ) (jobs jobs' : List J) → Keeps f → Spares f k jobs → Changed f k jobs jobs' → AreApart m.view jobs → AreApart m.view jobs'
  apart_changed f k jobs jobs' keeps spares c s i j a b ne x y p q r = elim (c.from i a) [
    | inl u ↦ elim (c.from j b) [
      | inl v ↦ s i j u.0 v.0 ne x y p q r
      | inr v ↦
          let t : Apart v.0 i = λ y x q p r. s i v.0 u.0 v.1 (λ n. u.1 (n ∙ v.2)) x y p q (turned y x r) in
          spares v.0 j i v.3 u.0 u.1 t y x q p (turned x y r)
    ]
    | inr u ↦ elim (c.from j b) [
      | inl v ↦ spares u.0 i j u.3 v.0 v.1 (s u.0 j u.1 v.0 (λ n. v.1 (sym n ∙ u.2))) x y p q r
      | inr v ↦ absurd (ne (keeps u.0 i u.3 ∙ u.2 ∙ sym v.2 ∙ sym (keeps v.0 j v.3)))
    ]
  ]

  go_spares : (c : C) (k : ℕ) (jobs : List J) → Spares (m.go (is_free m jobs k) c) k jobs
  go_spares c k jobs j i o h a ne s x y p q r = elim (is.go_holds (is_free m jobs k) c j i h x p) [
    | inl held ↦ s x y held q r
    | inr free ↦
        let none = freed k x jobs (not-true _ free) o a ne in
        true≢false (sym (excludes_if (m.view o).held x (y, q, r)) ∙ none)
  ]

  abort_spares : (k : ℕ) (jobs : List J) → Spares m.abort k jobs
  abort_spares k jobs j i o h a ne s x y p q r = s x y (is.abort_holds j i h x p) q r

  -- a state that a run reaches
  record Sound (jobs : List J) : Type 0 where
    distinct : Distinct jobs
    apart : AreApart m.view jobs

  sound_more : (jobs : List J) (new : J) → Sound jobs → Unused (number m new) jobs → ((n : LockName) → Holds (m.view new) n → ⊥) → Sound (jobs ++ new ∷ [])
  sound_more jobs new s fresh none = record {
    distinct = distinct_more jobs new s.distinct fresh;
    apart = λ i j a b ne x y p q r. elim (among-append jobs new i a) [
      | inl u ↦ elim (among-append jobs new j b) [
        | inl v ↦ s.apart i j u v ne x y p q r
        | inr e ↦ let P : J → Type 0 = λ z. Holds (m.view z) y in none y (subst P e q)
      ]
      | inr e ↦ let P : J → Type 0 = λ z. Holds (m.view z) x in none x (subst P e p)
    ];
  }

  sound_changed : (f : J → Result J Refusal) (k : ℕ) (jobs jobs' : List J) → Keeps f → Spares f k jobs → Sound jobs → changed m f k jobs ≡ Ok jobs' → Changed f k jobs jobs' × Sound jobs'
  sound_changed f k jobs jobs' keeps spares s h =
      let c = change f k jobs jobs' keeps s.distinct h in
      (c, record { distinct = c.distinct; apart = apart_changed f k jobs jobs' keeps spares c s.apart })

  -- Where a job of the later state comes from: one of these, by its own acts, or it began since.

  Was : List (Event C E) → List J → J → Type 0
  Was es jobs i = (j : J) × Among j jobs × (number m j ≡ number m i) × (lone_run m (acts_of (number m i) es) j ≡ Ok i)

  Since : List (Event C E) → List J → J → Type 0
  Since es jobs i = Unused (number m i) jobs × IsAlone m es i

  Whence : List (Event C E) → List J → J → Type 0
  Whence es jobs i = Was es jobs i ⊎ Since es jobs i

  -- an event of another job does not change this one
  was_other : (e : Event C E) (es : List (Event C E)) (jobs : List J) (i : J) → e.job ≢ number m i → Was es jobs i → Was (e ∷ es) jobs i
  unfolding Was
  was_other e es jobs i ne w = (w.0, w.1, w.2, rw (acts_other (number m i) e es ne) w.3)

  alone_other : (e : Event C E) (es : List (Event C E)) (i : J) → e.job ≢ number m i → IsAlone m es i → IsAlone m (e ∷ es) i
  alone_other e es i ne s =
      record { begins = s.begins; acts = s.acts; own = acts_other (number m i) e es ne ∙ s.own; lone = s.lone }

  whence_changed : (f : J → Result J Refusal) (e : Event C E) (es : List (Event C E)) (jobs mid : List J) → Keeps f → ((j i : J) → f j ≡ Ok i → alone m e.act j ≡ Ok i) → Changed f e.job jobs mid → (i : J) → Whence es mid i → Whence (e ∷ es) jobs i
  unfolding Whence Was Since
  whence_changed f e es jobs mid keeps may c i (inl (j, a, n, r)) = elim (c.from j a) [
    | inl o ↦ inl (was_other e es jobs i (λ b. o.1 (n ∙ sym b)) (j, o.0, n, r))
    | inr o ↦
        let own : e.job ≡ number m i = sym o.2 ∙ sym (keeps o.0 j o.3) ∙ n in
        inl (o.0, o.1, sym (keeps o.0 j o.3) ∙ n, rw (acts_own (number m i) e es own, may o.0 j o.3) r)
  ]
  whence_changed f e es jobs mid keeps may c i (inr (u, s)) =
      let t = c.there in
      inr (
        λ j a b. let k = c.still j a in u k.0 k.1 (k.2 ∙ b),
        alone_other e es i (λ b. u t.0 t.1 (t.2 ∙ b)) s,
      )

  whence_begun : (entry : E) (test : Bool) (values : List (Option (List ℕ))) (k : ℕ) (new : J) (es : List (Event C E)) (jobs : List J) → m.begin entry test values k ≡ Ok new → Unused k jobs → (i : J) → Whence es (jobs ++ new ∷ []) i → Whence (record { job = k; act = Begin entry test values } ∷ es) jobs i
  unfolding Whence Was Since
  whence_begun entry test values k new es jobs h fresh i (inl (j, a, n, r)) =
      let e : Event C E = record { job = k; act = Begin entry test values } in
      elim (among-append jobs new j a) [
        | inl b ↦ inl (was_other e es jobs i (λ c. fresh j b (n ∙ sym c)) (j, b, n, r))
        | inr d ↦
            let own : k ≡ number m i = sym (is.begin_number entry test values k new h) ∙ ap (number m) (sym d) ∙ n in
            let P : ℕ → Type 0 = λ q. m.begin entry test values q ≡ Ok new in
            let Q : J → Type 0 = λ z. lone_run m (acts_of (number m i) es) z ≡ Ok i in
            inr (
              λ x b c. fresh x b (c ∙ sym own),
              record {
                begins = Begin entry test values;
                acts = acts_of (number m i) es;
                own = acts_own (number m i) e es own;
                lone = record {
                  entry = entry;
                  test = test;
                  values = values;
                  first = new;
                  begins_so = refl;
                  is_first = subst P own h;
                  runs = subst Q d r;
                };
              },
            )
      ]
  whence_begun entry test values k new es jobs h fresh i (inr (u, s)) =
      let e : Event C E = record { job = k; act = Begin entry test values } in
      inr (
        λ j a. u j (among_front jobs new j a),
        alone_other e es i (λ b. u new (among_last jobs new) (is.begin_number entry test values k new h ∙ b)) s,
      )

  -- A state stays sound over an event, and what a job is after it determines what it was before.
  record Follows (k : ℕ) (a : Act C E) (jobs mid : List J) : Type 0 where
    sound : Sound mid
    whence : (es : List (Event C E)) (i : J) → Whence es mid i → Whence (record { job = k; act = a } ∷ es) jobs i

  follows_change : (f : J → Result J Refusal) (k : ℕ) (a : Act C E) (jobs mid : List J) → Keeps f → Spares f k jobs → ((j i : J) → f j ≡ Ok i → alone m a j ≡ Ok i) → Sound jobs → changed m f k jobs ≡ Ok mid → Follows k a jobs mid
  follows_change f k a jobs mid keeps spares may s h =
      let c = sound_changed f k jobs mid keeps spares s h in
      record { sound = c.1; whence = λ es i w. whence_changed f (record { job = k; act = a }) es jobs mid keeps may c.0 i w }

  follows_begin : (entry : E) (test : Bool) (values : List (Option (List ℕ))) (k : ℕ) (new : J) (jobs : List J) → m.begin entry test values k ≡ Ok new → Unused k jobs → Sound jobs → Follows k (Begin entry test values) jobs (jobs ++ new ∷ [])
  follows_begin entry test values k new jobs h fresh s =
      let n : number m new ≡ k = is.begin_number entry test values k new h in
      record {
        sound = sound_more jobs new s (λ j a e. fresh j a (e ∙ n)) (is.begin_holds entry test values k new h);
        whence = λ es i w. whence_begun entry test values k new es jobs h fresh i w;
      }

  follows : (k : ℕ) (a : Act C E) (jobs mid : List J) → Sound jobs → happens m jobs k a ≡ Ok mid → Follows k a jobs mid
  follows k (Begin entry test values) jobs mid s h =
      let b = begun k (m.begin entry test values k) jobs mid h in
      subst (Follows k (Begin entry test values) jobs) b.more (follows_begin entry test values k b.new jobs b.is_new b.fresh s)
  follows k (Go c) jobs mid s h =
      follows_change (m.go (is_free m jobs k) c) k (Go c) jobs mid (went (is_free m jobs k) c) (go_spares c k jobs) (λ j i g. is.go_more (is_free m jobs k) (λ _. true) c j i (λ n e. refl) g) s h
  follows k Abort jobs mid s h = follows_change m.abort k Abort jobs mid is.abort_number (abort_spares k jobs) (λ j i g. g) s h

  record Ran (es : List (Event C E)) (jobs jobs' : List J) : Type 0 where
    sound : Sound jobs'
    each : (i : J) → Among i jobs' → Whence es jobs i

  ran : (es : List (Event C E)) (jobs jobs' : List J) → Sound jobs → after m es jobs ≡ Ok jobs' → Ran es jobs jobs'
  unfolding Whence Was
  ran [] jobs jobs' s h =
      let e : jobs ≡ jobs' = cc in
      subst (Ran [] jobs) e (record { sound = s; each = λ i a. inl (i, a, refl, refl) })
  ran (e ∷ es) jobs jobs' s h =
      done_then (after m es) (happens m jobs e.job e.act) jobs' h (λ mid p q.
      let f = follows e.job e.act jobs mid s p in
      let r = ran es mid jobs' f.sound q in record { sound = r.sound; each = λ i a. f.whence es i (r.each i a) })

  begins_sound : Sound []
  begins_sound = record { distinct = tt; apart = λ i j a b ne. absurd a }

  pub held_apart : HeldApart m
  held_apart events jobs h = (ran events [] jobs begins_sound h).sound.apart

  pub numbers_distinct : NumbersDistinct m
  numbers_distinct events jobs h = (ran events [] jobs begins_sound h).sound.distinct

  from_none : (events : List (Event C E)) (i : J) → Whence events [] i → IsAlone m events i
  unfolding Whence Was Since
  from_none events i (inl w) = absurd w.1
  from_none events i (inr s) = s.1

  pub one_run_of_many : OneRunOfMany m
  one_run_of_many events jobs h j a = from_none events j ((ran events [] jobs begins_sound h).each j a)
