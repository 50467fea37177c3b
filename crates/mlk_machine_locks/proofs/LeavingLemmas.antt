-- A run without the events of one job is a run of the others.
use Rattle.std.proofs.Common.{◌≡◌, ℕ, Bool, true, false, List, [], ◌∷◌, ◌++◌, filter, refl, sym, ap, ◌∙◌, subst, inl, inr}
use Rattle.std.specs.Prelude.{◌≢◌, ◌==◌, ◌&&◌, not, Result, Ok, Err}
use Rattle.std.specs.List.{list_any}
use Rattle.std.proofs.lemmas.Bool.{cases_Bool, or_parts, or_from, not-true, not_from_false, not_from_true, eqb-true, eqb-false, eq-eqb, ne_eqb}
use Rattle.mlk_names.specs.declared.lock_name.LockName.{LockName}
use Rattle.mlk_machine_locks.specs.declared.refusal.Refusal.{Refusal}
use Rattle.mlk_machine_locks.specs.declared.refusal.Refusal.TheVariants.{NotEnabled}
use Rattle.mlk_machine_locks.specs.Counts.{excludes}
use Rattle.mlk_machine_locks.specs.Systems.{Machine, IsMachine, Act, Begin, Go, Abort, Event, and_then, number, is_free, is_used, changed, joined, happens, after}
use Rattle.mlk_machine_locks.specs.Laws.{others, without, LeavingOut, ChangesOne}
use Rattle.mlk_machine_locks.proofs.Answered.{done_then}

any_filter : {X : Type 0} (p q : X → Bool) (xs : List X) → list_any p xs ≡ false → list_any p (filter q xs) ≡ false
any_filter p q [] h = refl
any_filter p q (x ∷ xs) h =
    let o = or_parts (p x) (list_any p xs) h in
    elim (cases_Bool (q x)) [
      | inl e ↦ rw e (or_from (p x) (list_any p (filter q xs)) o.0 (any_filter p q xs o.1))
      | inr e ↦ rw e (any_filter p q xs o.1)
    ]

module _ {J C E : Type 0} (m : Machine J C E) (is : IsMachine m) (k : ℕ) where
  -- a job of another number stays, and one of this number is removed
  stays : (x : J) (xs : List J) → number m x ≢ k → others m k (x ∷ xs) ≡ x ∷ others m k xs
  stays x xs ne = let e : not (number m x == k) ≡ true = not_from_false (number m x == k) (ne_eqb (number m x) k ne) in rw e refl

  goes : (x : J) (xs : List J) → number m x ≡ k → others m k (x ∷ xs) ≡ others m k xs
  goes x xs n = let e : not (number m x == k) ≡ false = not_from_true (number m x == k) (eq-eqb (number m x) k n) in rw e refl

  stays_last : (xs : List J) (y : J) → number m y ≢ k → others m k (xs ++ y ∷ []) ≡ others m k xs ++ y ∷ []
  stays_last [] y ne = stays y [] ne
  stays_last (x ∷ xs) y ne = elim (cases_Bool (number m x == k)) [
    | inl e ↦ rw e (stays_last xs y ne)
    | inr e ↦ rw e (ap (λ l. x ∷ l) (stays_last xs y ne))
  ]

  goes_last : (xs : List J) (y : J) → number m y ≡ k → others m k (xs ++ y ∷ []) ≡ others m k xs
  goes_last [] y n = goes y [] n
  goes_last (x ∷ xs) y n = elim (cases_Bool (number m x == k)) [
    | inl e ↦ rw e (goes_last xs y n)
    | inr e ↦ rw e (ap (λ l. x ∷ l) (goes_last xs y n))
  ]

  abbrev Keeps : (J → Result J Refusal) → Type 0
  Keeps f = (j i : J) → f j ≡ Ok i → number m i ≡ number m j

  -- a change of this job does not affect the others
  own_change : (f : J → Result J Refusal) (jobs jobs' : List J) → Keeps f → changed m f k jobs ≡ Ok jobs' → others m k jobs' ≡ others m k jobs
  own_change f [] jobs' keeps h = cc
  own_change f (x ∷ xs) jobs' keeps h =
      let P : List J → Type 0 = λ l. others m k l ≡ others m k (x ∷ xs) in
      elim (cases_Bool (number m x == k)) [
        | inl e ↦
            let g : and_then (λ y. Ok (y ∷ xs)) (f x) ≡ Ok jobs' = rw e at h in
            done_then (λ y. Ok (y ∷ xs)) (f x) jobs' g (λ y p q.
            let r : y ∷ xs ≡ jobs' = cc in
            let n : number m x ≡ k = eqb-true (number m x) k e in
            subst P r (goes y xs (keeps x y p ∙ n) ∙ sym (goes x xs n)))
        | inr e ↦
            let g : and_then (λ ys. Ok (x ∷ ys)) (changed m f k xs) ≡ Ok jobs' = rw e at h in
            done_then (λ ys. Ok (x ∷ ys)) (changed m f k xs) jobs' g (λ ys p q.
            let r : x ∷ ys ≡ jobs' = cc in
            let ne : number m x ≢ k = eqb-false (number m x) k e in
            subst P r (stays x ys ne ∙ ap (λ l. x ∷ l) (own_change f xs ys keeps p) ∙ sym (stays x xs ne)))
      ]

  -- a change of another job is one among the others, if both functions agree on it
  other_change : (f g : J → Result J Refusal) (n : ℕ) (jobs jobs' : List J) → n ≢ k → Keeps f → ((j i : J) → f j ≡ Ok i → g j ≡ Ok i) → changed m f n jobs ≡ Ok jobs' → changed m g n (others m k jobs) ≡ Ok (others m k jobs')
  other_change f g n [] jobs' ne keeps may h = cc
  other_change f g n (x ∷ xs) jobs' ne keeps may h =
      let P : List J → Type 0 = λ l. changed m g n (others m k (x ∷ xs)) ≡ Ok (others m k l) in
      elim (cases_Bool (number m x == n)) [
        | inl e ↦
            let a : and_then (λ y. Ok (y ∷ xs)) (f x) ≡ Ok jobs' = rw e at h in
            done_then (λ y. Ok (y ∷ xs)) (f x) jobs' a (λ y p q.
            let r : y ∷ xs ≡ jobs' = cc in
            let i : number m x ≡ n = eqb-true (number m x) n e in
            let s = stays x xs (λ z. ne (sym i ∙ z)) in
            let t = stays y xs (λ z. ne (sym i ∙ sym (keeps x y p) ∙ z)) in
            subst P r (rw (s, t, e, may x y p) refl))
        | inr e ↦
            let a : and_then (λ ys. Ok (x ∷ ys)) (changed m f n xs) ≡ Ok jobs' = rw e at h in
            done_then (λ ys. Ok (x ∷ ys)) (changed m f n xs) jobs' a (λ ys p q.
            let r : x ∷ ys ≡ jobs' = cc in
            let c = other_change f g n xs ys ne keeps may p in
            subst P r (elim (cases_Bool (number m x == k)) [
              | inl d ↦ let z = eqb-true (number m x) k d in rw (goes x xs z, goes x ys z) c
              | inr d ↦ let z = eqb-false (number m x) k d in rw (stays x xs z, stays x ys z, e, c) refl
            ]))
      ]

  free_more : (jobs : List J) (n : ℕ) (x : LockName) → is_free m jobs n x ≡ true → is_free m (others m k jobs) n x ≡ true
  free_more jobs n x h =
      not_from_false _ (any_filter (λ j. not (number m j == n) && excludes (m.view j).held x) (λ j. not (number m j == k)) jobs (not-true _ h))

  begins_own : (o : Result J Refusal) (jobs jobs' : List J) → ((j : J) → o ≡ Ok j → number m j ≡ k) → joined m k jobs o ≡ Ok jobs' → others m k jobs' ≡ others m k jobs
  begins_own o jobs jobs' n h = elim (cases_Bool (is_used m jobs k)) [
    | inl u ↦ let g : Err NotEnabled ≡ Ok jobs' = rw u at h in cc
    | inr u ↦
        let g : and_then (λ j. Ok (jobs ++ j ∷ [])) o ≡ Ok jobs' = rw u at h in
        done_then (λ j. Ok (jobs ++ j ∷ [])) o jobs' g (λ j p q.
        let r : jobs ++ j ∷ [] ≡ jobs' = cc in
        let P : List J → Type 0 = λ l. others m k l ≡ others m k jobs in subst P r (goes_last jobs j (n j p)))
  ]

  begins_other : (o : Result J Refusal) (n : ℕ) (jobs jobs' : List J) → n ≢ k → ((j : J) → o ≡ Ok j → number m j ≡ n) → joined m n jobs o ≡ Ok jobs' → joined m n (others m k jobs) o ≡ Ok (others m k jobs')
  begins_other o n jobs jobs' ne i h = elim (cases_Bool (is_used m jobs n)) [
    | inl u ↦ let g : Err NotEnabled ≡ Ok jobs' = rw u at h in cc
    | inr u ↦
        let g : and_then (λ j. Ok (jobs ++ j ∷ [])) o ≡ Ok jobs' = rw u at h in
        done_then (λ j. Ok (jobs ++ j ∷ [])) o jobs' g (λ j p q.
        let r : jobs ++ j ∷ [] ≡ jobs' = cc in
        let P : List J → Type 0 = λ l. joined m n (others m k jobs) o ≡ Ok (others m k l) in
        let v : is_used m (others m k jobs) n ≡ false = any_filter (λ j. number m j == n) (λ j. not (number m j == k)) jobs u in
        subst P r (rw (v, p) (ap Ok (sym (stays_last jobs j (λ z. ne (sym (i j p) ∙ z)))))))
  ]

  own_event : (a : Act C E) (jobs mid : List J) → happens m jobs k a ≡ Ok mid → others m k mid ≡ others m k jobs
  own_event (Begin e test values) jobs mid h = begins_own (m.begin e test values k) jobs mid (is.begin_number e test values k) h
  own_event (Go c) jobs mid h = own_change (m.go (is_free m jobs k) c) jobs mid (λ j i g. is.go_number (is_free m jobs k) c j i g) h
  own_event Abort jobs mid h = own_change m.abort jobs mid is.abort_number h

  other_event : (n : ℕ) (a : Act C E) (jobs mid : List J) → n ≢ k → happens m jobs n a ≡ Ok mid → happens m (others m k jobs) n a ≡ Ok (others m k mid)
  other_event n (Begin e test values) jobs mid ne h = begins_other (m.begin e test values n) n jobs mid ne (is.begin_number e test values n) h
  other_event n (Go c) jobs mid ne h =
      other_change (m.go (is_free m jobs n) c) (m.go (is_free m (others m k jobs) n) c) n jobs mid ne
      (λ j i g. is.go_number (is_free m jobs n) c j i g)
      (λ j i g. is.go_more (is_free m jobs n) (is_free m (others m k jobs) n) c j i (free_more jobs n) g)
      h
  other_event n Abort jobs mid ne h = other_change m.abort m.abort n jobs mid ne is.abort_number (λ j i g. g) h

  left_out : (es : List (Event C E)) (jobs jobs' : List J) → after m es jobs ≡ Ok jobs' → after m (without k es) (others m k jobs) ≡ Ok (others m k jobs')
  left_out [] jobs jobs' h = let e : jobs ≡ jobs' = cc in ap (λ l. Ok (others m k l)) e
  left_out (e ∷ es) jobs jobs' h =
      done_then (after m es) (happens m jobs e.job e.act) jobs' h (λ mid p q.
      let r = left_out es mid jobs' q in
      elim (cases_Bool (e.job == k)) [
        | inl d ↦
            let P : ℕ → Type 0 = λ n. happens m jobs n e.act ≡ Ok mid in
            let i : others m k mid ≡ others m k jobs = own_event e.act jobs mid (subst P (eqb-true e.job k d) p) in
            let Q : List J → Type 0 = λ l. after m (without k es) l ≡ Ok (others m k jobs') in rw d (subst Q i r)
        | inr d ↦ rw (d, other_event e.job e.act jobs mid (eqb-false e.job k d) p) r
      ])

pub leaving_out : {J C E : Type 0} (m : Machine J C E) → IsMachine m → LeavingOut m
leaving_out m is events jobs h k = left_out m is k events [] jobs h

pub changes_one : {J C E : Type 0} (m : Machine J C E) → IsMachine m → ChangesOne m
changes_one m is k act jobs later h = own_event m is k act jobs later h
