-- The last values of a job.
use Rattle.std.proofs.Common.{◌≡◌, ℕ, List, [], ◌∷◌, drop, Option, Some, None, Ok, Err, refl, sym}
use Rattle.std.specs.Prelude.{slice_get}
use Rattle.mlk_machine_locks.specs.declared.refusal.Refusal.TheVariants.{NotEnabled}
use Rattle.mlk_machine_jobs.specs.Tasks.{Task, Job}
use Rattle.mlk_machine_jobs.specs.Choices.{Stepped, with_last, fetched, doing, pushed}

pub no_last : (vs : List (List ℕ)) (f : List ℕ → Stepped) → None ≡ slice_get vs 0 → with_last vs f ≡ Err NotEnabled
no_last [] f h = refl
no_last (v ∷ vs) f h = absurd (cc)

pub the_last : (vs : List (List ℕ)) (v : List ℕ) (f : List ℕ → Stepped) → Some v ≡ slice_get vs 0 → with_last vs f ≡ f v
the_last [] v f h = absurd (cc)
the_last (w ∷ vs) v f h = let e : Some v ≡ Some w = h in let i : v ≡ w = cc in rw i refl

pub no_second : (vs : List (List ℕ)) (b : List ℕ) (g : List ℕ → List ℕ → Stepped) → Some b ≡ slice_get vs 0
    → None ≡ slice_get vs 1 → with_last vs (λ y. with_last (drop 1 vs) (λ x. g x y)) ≡ Err NotEnabled
no_second [] b g h k = absurd (cc)
no_second (v ∷ []) b g h k = refl
no_second (v ∷ w ∷ vs) b g h k = absurd (cc)

pub last_two : (vs : List (List ℕ)) (a b : List ℕ) (g : List ℕ → List ℕ → Stepped) → Some b ≡ slice_get vs 0
    → Some a ≡ slice_get vs 1 → with_last vs (λ y. with_last (drop 1 vs) (λ x. g x y)) ≡ g a b
last_two [] a b g h k = absurd (cc)
last_two (v ∷ []) a b g h k = absurd (cc)
last_two (v ∷ w ∷ vs) a b g h k =
    let e : Some b ≡ Some v = h in
    let i : b ≡ v = cc in
    let d : Some a ≡ Some w = k in
    let l : a ≡ w = cc in
    rw (i, l) refl

pub none_fetched : (j : Job) (ts : List Task) (o : Option (List ℕ)) → None ≡ o → fetched j ts o ≡ Err NotEnabled
none_fetched j ts o h = rw (sym h) refl

pub some_fetched : (j : Job) (ts : List Task) (o : Option (List ℕ)) (value : List ℕ) → Some value ≡ o
    → fetched j ts o ≡ Ok (doing ts (pushed value j))
some_fetched j ts o value h = rw (sym h) refl
