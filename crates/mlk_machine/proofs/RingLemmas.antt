-- The code's ring of jobs is the definition's.
use Rattle.std.proofs.Common.{◌≡◌, ◌∙◌, ℕ, zero, suc, Bool, List, [], ◌∷◌, length, map, filter, refl, sym, ap}
use Rattle.std.specs.List.{list_any}
use Rattle.std.proofs.lemmas.List.{length-map}
use Rattle.mlk_machine_locks.specs.Lists.{is_some_there}
use Rattle.mlk_machine_locks.specs.Rings.{waiting, left_after, left, has_ring}
use Rattle.mlk_machine_locks.specs.Waiting.{waits_as}
use Rattle.mlk_machine_locks.specs.Laws.{has_ring_of}
use Rattle.mlk_machine_locks.proofs.ListLemmas.{any_of_map, filter_of_map}
use Rattle.mlk_machine_jobs.specs.declared.job.Job.{Job as JobIn}
use Rattle.mlk_machine_jobs.specs.JobViews.{job_of}
use Rattle.mlk_machine_jobs.specs.Runs.{seen}

module _ {X Y : Type 0} (g : X → Y) (waits : Y → Y → Bool) where
  abbrev of_those : X → X → Bool
  of_those x y = waits (g x) (g y)

  -- those that wait for one of all of them
  waiting_of_map : (xs : List X) → map g (filter (λ x. list_any (λ y. waits (g x) (g y)) xs) xs) ≡ waiting waits (map g xs)
  waiting_of_map xs = filter_of_map g (λ x. list_any (λ y. waits (g x) (g y)) xs) (λ y. list_any (waits y) (map g xs)) xs (λ x. sym (any_of_map g (waits (g x)) xs))

  left_mapped : (n : ℕ) (xs : List X) → map g (left_after of_those n xs) ≡ left_after waits n (map g xs)
  left_mapped zero xs = refl
  left_mapped (suc n) xs = left_mapped n (waiting of_those xs) ∙ ap (left_after waits n) (waiting_of_map xs)

  some_mapped : (xs : List X) → is_some_there (map g xs) ≡ is_some_there xs
  some_mapped [] = refl
  some_mapped (x ∷ xs) = refl

  ring_mapped : (xs : List X) → has_ring of_those xs ≡ has_ring waits (map g xs)
  ring_mapped xs =
      sym (some_mapped (left of_those xs))
      ∙ ap is_some_there (left_mapped (length xs) xs)
      ∙ ap (λ n. is_some_there (left_after waits n (map g xs))) (sym (length-map xs g))

pub ring_of_jobs : (js : List JobIn)
    → has_ring (waits_as (λ j. seen (job_of j))) js ≡ has_ring_of seen (map job_of js)
ring_of_jobs js = ring_mapped job_of (waits_as seen) js
